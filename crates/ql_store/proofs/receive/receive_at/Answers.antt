use Rattle.std.proofs.Common.{◌≡◌}
use Rattle.std.proofs.lemmas.Result.{MatchResult-weaker}
use Rattle.std.proofs.Common.{subst}
use Rattle.std.proofs.Math.Seq.{map-set_same}
use Rattle.ql_holder.specs.Arrivals.{IsArrival}
use Rattle.ql_store.proofs.ReceiptLaws.{receipt-at, failed-receipt}
use Rattle.ql_store.proofs.receive.receive_at.Goals as goal

pub returns-clause-receipt : goal.returns-clause-receipt
returns-clause-receipt g c =
    let x = c.args.x.now in
    let held = c.index_mut-holder.result.now in
    let after = c.receive.new.self in
    MatchResult-weaker c.receive.result c.receive.ensures.arrival
    (λ arrival is. receipt-at g.H.Holder.received c.args.holders.now.items c.args.r.0 held after c.requires.replica x c.args.pack.now arrival
    (subst (λ (h : g.row.H.Denot). IsArrival x (g.H.Holder.received h) c.args.pack.now (g.H.Holder.received after) arrival) c.index_mut-holder.ensures.value is))
    (λ e is. is)

pub returns-clause-same : goal.returns-clause-same
returns-clause-same g c = failed-receipt c.receive.result _ (λ nothing.
    map-set_same g.H.Holder.received c.args.holders.now.items c.args.r.0 c.receive.new.self c.index_mut-holder.result.now
    (subst (λ (h : g.row.H.Denot). g.H.Holder.received c.receive.new.self ≡ g.H.Holder.received h) c.index_mut-holder.ensures.value (c.receive.ensures.same nothing).0))

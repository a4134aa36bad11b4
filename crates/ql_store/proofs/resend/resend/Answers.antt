use Rattle.std.proofs.lemmas.Result.{err_from_is_err_and}
use Rattle.std.proofs.Common.{ℕ, List, map, sym, ap, ◌∙◌}
use Rattle.ql_base.specs.IdLists.{has_id}
use Rattle.ql_machine.specs.Steps.{absent}
use Rattle.ql_store.proofs.NetLaws.{step-resends}
use Rattle.ql_store.proofs.ReceiptLaws.{held-at}
use Rattle.ql_store.proofs.resend.resend.Goals as goal

pub returns-then-not-has-clause-step : goal.returns-then-not-has-clause-step
returns-then-not-has-clause-step g c = λ rules shim.
    absent c.args.effect c.args.from c.args.to
    (ap (λ (ids : List ℕ). has_id ids c.args.effect.0) (held-at g.H.Holder.received c.args.holders.now.items c.args.from.0 c.index-holder.result.now c.requires.replica c.index-holder.ensures)
    ∙ sym c.has.ensures ∙ c.if-not-has.true)

pub returns-clause-step : goal.returns-clause-step
returns-clause-step g c = λ rules shim.
    step-resends rules c.args.x.now (map g.H.Holder.received c.args.holders.now.items) shim c.args.net.now c.send.new.self c.args.effect c.args.from c.args.to c.in_ok-pack.pack c.in_ok-m.m
    (ap (λ (ids : List ℕ). has_id ids c.args.effect.0) (held-at g.H.Holder.received c.args.holders.now.items c.args.from.0 c.index-holder.result.now c.requires.replica c.index-holder.ensures)
    ∙ sym c.has.ensures ∙ c.if-not-has.false)
    c.in_ok-pack.ensures c.in_ok-m.ensures.sent c.in_ok-m.ensures.number

pub returns-in_err-m-clause-step : goal.returns-in_err-m-clause-step
returns-in_err-m-clause-step g c = let p = err_from_is_err_and c.from_residual-in_err-m.result c.from_residual-in_err-m.ensures.1 in rw p.1 tt

pub returns-in_err-pack-clause-step : goal.returns-in_err-pack-clause-step
returns-in_err-pack-clause-step g c = let p = err_from_is_err_and c.from_residual.result c.from_residual.ensures.1 in rw p.1 tt

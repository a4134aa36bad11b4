use Rattle.std.proofs.Common.{sym, ◌∙◌, add-one}
use Rattle.std.proofs.lemmas.Bool.{both_ways}
use Rattle.ql_holder.specs.Closed.{Has}
use Rattle.ql_shim.proofs.JoinedLaws.{those-more, those-same}
use Rattle.ql_restart.proofs.recovered.received_among.Goals as goal
use Rattle.ql_restart.proofs.recovered.received_among.Goals.{then-has+in_ok-insert, else-has}

pub loop-id-preserved : goal.loop-id-preserved
loop-id-preserved g c =
    let ids = c.args.ids.now in
    let k = c.loop-id.id-index in
    let received = g.H.Holder.received c.args.holder.now in
    elim c.if-has.branch [
      | then-has+in_ok-insert w ↦ rw (w.found-is, w.in_ok-insert.ensures.added, add-one)
          (those-more ids (Has received) k c.loop-id.found c.loop-id-test.true (sym c.has.ensures ∙ w.if-has.true) c.loop-id.invariant)
      | else-has w ↦ rw (w.found-is, add-one)
          (those-same ids (Has received) k c.loop-id.found c.loop-id-test.true (λ is. both_ways c.has.result w.if-has.false (c.has.ensures ∙ is)) c.loop-id.invariant)
    ]

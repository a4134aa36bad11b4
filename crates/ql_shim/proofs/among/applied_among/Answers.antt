use Rattle.std.proofs.lemmas.Result.{err_from_is_err_and}
use Rattle.std.proofs.Common.{add-one}
use Rattle.std.proofs.lemmas.Bool.{both_ways}
use Rattle.ql_holder.specs.Arrivals.{Applied}
use Rattle.ql_shim.proofs.JoinedLaws.{those-more, those-same}
use Rattle.ql_shim.proofs.among.applied_among.Goals as goal
use Rattle.ql_shim.proofs.among.applied_among.Goals.{then-applied+in_ok-insert, else-applied}

pub loop-a-preserved : goal.loop-a-preserved
loop-a-preserved g c =
    let ids = c.args.effects.now in
    let k = c.loop-a.a-index in
    let received = g.H.Holder.received c.args.holder.now in
    elim c.if-applied.branch [
      | then-applied+in_ok-insert w ↦ rw (w.found-is, w.in_ok-insert.ensures.added, add-one)
          (λ x fits. those-more ids (Applied x received) k c.loop-a.found c.loop-a-test.true ((c.applied.ensures x fits).0 w.if-applied.true) (c.loop-a.invariant x fits))
      | else-applied w ↦ rw (w.found-is, add-one)
          (λ x fits. those-same ids (Applied x received) k c.loop-a.found c.loop-a-test.true (λ applied. both_ways c.applied.result w.if-applied.false ((c.applied.ensures x fits).1 applied)) (c.loop-a.invariant x fits))
    ]

pub returns-in_err-insert : goal.returns-in_err-insert
returns-in_err-insert g c = let p = err_from_is_err_and c.from_residual.result c.from_residual.ensures.1 in rw p.1 tt

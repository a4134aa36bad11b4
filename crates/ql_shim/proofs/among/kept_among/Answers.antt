use Rattle.std.proofs.Common.{◌∙◌, sym, get_or, add-one}
use Rattle.std.proofs.lemmas.Bool.{both_ways}
use Rattle.ql_base.specs.IdLists.{has_id}
use Rattle.ql_holder.specs.Closed.{Has}
use Rattle.ql_shim.proofs.JoinedLaws.{those-more, those-same}
use Rattle.ql_shim.proofs.among.kept_among.Goals as goal
use Rattle.ql_shim.proofs.among.kept_among.Goals.{then-has_next+in_ok-insert, else-has_next}

pub loop-a-preserved : goal.loop-a-preserved
loop-a-preserved c =
    let ids = c.args.effects.now in
    let k = c.loop-a.a-index in
    elim c.if-has_next.branch [
      | then-has_next+in_ok-insert w ↦ rw (w.found-is, w.in_ok-insert.ensures.added, add-one) (those-more ids (Has c.args.set.now) k c.loop-a.found c.loop-a-test.true (sym c.has_next.ensures ∙ w.if-has_next.true) c.loop-a.invariant)
      | else-has_next w ↦ rw (w.found-is, add-one) (those-same ids (Has c.args.set.now) k c.loop-a.found c.loop-a-test.true (both_ways (has_id c.args.set.now (get_or ids k 0)) (sym c.has_next.ensures ∙ w.if-has_next.false)) c.loop-a.invariant)
    ]

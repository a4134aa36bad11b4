use Rattle.std.proofs.lemmas.Result.{err_from_is_err_and}
use Rattle.std.proofs.Common.{refl, inl, inr, get_or}
use Rattle.ql_base.proofs.IdLemmas.{merge-turn, merge-end, step-inside}
use Rattle.ql_base.proofs.id_set.merged.Goals as goal
use Rattle.ql_base.proofs.id_set.merged.Goals.{then-loop-i-test+else-j-ys, else-loop-i-test}

pub loop-i-preserved : goal.loop-i-preserved
loop-i-preserved c = record {
  inside = rw c.from-i.ensures (step-inside _ _ _ c.loop-i-test.true);
  within = rw c.from-j.ensures (step-inside _ _ _ c.if-j-ys.true);
  union =
      merge-turn _ _ _ _ _ _ _ (get_or c.args.xs.now c.loop-i.i 0) (get_or c.args.ys.now c.loop-i.j 0) _ _ _ c.requires.left c.requires.right c.loop-i-test.true c.if-j-ys.true
      refl refl
      c.min.ensures c.from-i.ensures c.from-j.ensures c.in_ok-push.ensures.items c.loop-i.invariant.union;
}

pub returns : goal.returns
returns c =
    rw (c.in_ok-extend_from_slice-2.ensures.items, c.in_ok-extend_from_slice.ensures.items)
    (elim c.loop-i-test.branch [
      | then-loop-i-test+else-j-ys w ↦ merge-end _ c.loop-i.both.items c.args.xs.now c.args.ys.now c.loop-i.i c.loop-i.j c.requires.left (inr w.if-j-ys.false) c.loop-i.invariant.union
      | else-loop-i-test w ↦ merge-end _ c.loop-i.both.items c.args.xs.now c.args.ys.now c.loop-i.i c.loop-i.j c.requires.left (inl w.loop-i-test.false) c.loop-i.invariant.union
    ])

pub returns-in_err-both : goal.returns-in_err-both
returns-in_err-both c = let p = err_from_is_err_and c.from_residual.result c.from_residual.ensures.1 in rw p.1 tt

pub returns-in_err-extend_from_slice : goal.returns-in_err-extend_from_slice
returns-in_err-extend_from_slice c = let p = err_from_is_err_and c.from_residual-in_err-extend_from_slice.result c.from_residual-in_err-extend_from_slice.ensures.1 in rw p.1 tt

pub returns-in_err-extend_from_slice-2 : goal.returns-in_err-extend_from_slice-2
returns-in_err-extend_from_slice-2 c = let p = err_from_is_err_and c.from_residual-in_err-extend_from_slice-2.result c.from_residual-in_err-extend_from_slice-2.ensures.1 in rw p.1 tt

pub returns-in_err-push : goal.returns-in_err-push
returns-in_err-push c = let p = err_from_is_err_and c.from_residual-in_err-push.result c.from_residual-in_err-push.ensures.1 in rw p.1 tt

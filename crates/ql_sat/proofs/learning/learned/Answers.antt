use Rattle.std.proofs.lemmas.Result.{err_from_is_err_and}
use Rattle.ql_sat.proofs.Learned.{learned_ascending}
use Rattle.ql_sat.proofs.learning.learned.Goals as goal

pub of-requires : goal.of-requires
of-requires c = rw c.loop-below.invariant (learned_ascending c.args.marks.now c.args.seen.now c.loop-below.below)

pub returns-in_err-push : goal.returns-in_err-push
returns-in_err-push c = let p = err_from_is_err_and c.from_residual.result c.from_residual.ensures.1 in rw p.1 tt

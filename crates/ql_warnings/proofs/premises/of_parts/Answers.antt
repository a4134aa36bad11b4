use Rattle.std.proofs.lemmas.Result.{err_from_is_err_and}
use Rattle.ql_warnings.proofs.premises.of_parts.Goals as goal

pub loop-k-preserved : goal.loop-k-preserved
loop-k-preserved c = λ p g vars premise parts. c.in_ok-push_part.ensures p g vars premise parts (c.loop-k.invariant p g vars premise parts)

pub returns-in_err-push_part : goal.returns-in_err-push_part
returns-in_err-push_part c = let p = err_from_is_err_and c.from_residual.result c.from_residual.ensures.1 in rw p.1 tt

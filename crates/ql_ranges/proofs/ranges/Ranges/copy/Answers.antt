use Rattle.std.proofs.lemmas.Result.{err_from_is_err_and}
use Rattle.ql_ranges.proofs.ranges.Ranges.copy.Goals as goal

pub returns-in_err-ranges-clause-same : goal.returns-in_err-ranges-clause-same
returns-in_err-ranges-clause-same c = let p = err_from_is_err_and c.from_residual.result c.from_residual.ensures.1 in rw p.1 tt

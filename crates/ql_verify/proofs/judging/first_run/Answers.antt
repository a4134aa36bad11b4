use Rattle.std.proofs.lemmas.Result.{err_from_is_err_and}
use Rattle.ql_verify.proofs.judging.first_run.Goals as goal

pub returns-in_err-runs : goal.returns-in_err-runs
returns-in_err-runs c = let p = err_from_is_err_and c.from_residual.result c.from_residual.ensures.1 in rw p.1 tt

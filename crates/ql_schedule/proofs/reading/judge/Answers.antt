use Rattle.std.proofs.lemmas.Result.{err_from_is_err_and}
use Rattle.ql_schedule.proofs.reading.judge.Goals as goal

pub returns-in_err-check-clause-numbers : goal.returns-in_err-check-clause-numbers
returns-in_err-check-clause-numbers c = let p = err_from_is_err_and c.from_residual-in_err-check.result c.from_residual-in_err-check.ensures.1 in rw p.1 tt

pub returns-in_err-known-clause-numbers : goal.returns-in_err-known-clause-numbers
returns-in_err-known-clause-numbers c = let p = err_from_is_err_and c.from_residual.result c.from_residual.ensures.1 in rw p.1 tt

use Rattle.std.proofs.lemmas.Result.{err_from_is_err_and}
use Rattle.ql_judging.proofs.verifying.verify_execution.Goals as goal

pub returns-in_err-breach_line-in-Ok-Some : goal.returns-in_err-breach_line-in-Ok-Some
returns-in_err-breach_line-in-Ok-Some c = let p = err_from_is_err_and c.from_residual-in_err-breach_line-in-Ok-Some.result c.from_residual-in_err-breach_line-in-Ok-Some.ensures.1 in rw p.1 tt

pub returns-in_err-from_slice-in-Ok-None : goal.returns-in_err-from_slice-in-Ok-None
returns-in_err-from_slice-in-Ok-None c = let p = err_from_is_err_and c.from_residual.result c.from_residual.ensures.1 in rw p.1 tt

pub returns-in_err-too_much-in-Err-TooMuch : goal.returns-in_err-too_much-in-Err-TooMuch
returns-in_err-too_much-in-Err-TooMuch c = let p = err_from_is_err_and c.from_residual-in_err-too_much-in-Err-TooMuch.result c.from_residual-in_err-too_much-in-Err-TooMuch.ensures.1 in rw p.1 tt

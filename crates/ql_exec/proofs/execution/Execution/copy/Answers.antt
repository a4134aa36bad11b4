use Rattle.std.proofs.lemmas.Result.{err_from_is_err_and}
use Rattle.ql_exec.proofs.execution.Execution.copy.Goals as goal

pub returns-in_err-copy : goal.returns-in_err-copy
returns-in_err-copy c = let p = err_from_is_err_and c.from_residual-in_err-copy.result c.from_residual-in_err-copy.ensures.1 in rw p.1 tt

pub returns-in_err-copy-2 : goal.returns-in_err-copy-2
returns-in_err-copy-2 c = let p = err_from_is_err_and c.from_residual-in_err-copy-2.result c.from_residual-in_err-copy-2.ensures.1 in rw p.1 tt

pub returns-in_err-effects : goal.returns-in_err-effects
returns-in_err-effects c = let p = err_from_is_err_and c.from_residual.result c.from_residual.ensures.1 in rw p.1 tt

pub returns-in_err-from_slice : goal.returns-in_err-from_slice
returns-in_err-from_slice c = let p = err_from_is_err_and c.from_residual-in_err-from_slice.result c.from_residual-in_err-from_slice.ensures.1 in rw p.1 tt

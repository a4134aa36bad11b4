use Rattle.std.proofs.lemmas.Result.{err_from_is_err_and}
use Rattle.ql_slimming.proofs.command.slim_run.Goals as goal

pub returns-in_err-input : goal.returns-in_err-input
returns-in_err-input c = let p = err_from_is_err_and c.from_residual.result c.from_residual.ensures.1 in rw p.1 tt

pub returns-in_err-text_of-in-Ok : goal.returns-in_err-text_of-in-Ok
returns-in_err-text_of-in-Ok c = let p = err_from_is_err_and c.from_residual-in_err-text_of-in-Ok.result c.from_residual-in_err-text_of-in-Ok.ensures.1 in rw p.1 tt

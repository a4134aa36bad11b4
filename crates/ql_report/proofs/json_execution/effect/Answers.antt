use Rattle.std.proofs.lemmas.Result.{err_from_is_err_and}
use Rattle.ql_report.proofs.json_execution.effect.Goals as goal

pub returns-in_err-put_call : goal.returns-in_err-put_call
returns-in_err-put_call c = let p = err_from_is_err_and c.from_residual.result c.from_residual.ensures.1 in rw p.1 tt

pub returns-in_err-put_circumstances : goal.returns-in_err-put_circumstances
returns-in_err-put_circumstances c = let p = err_from_is_err_and c.from_residual-in_err-put_circumstances.result c.from_residual-in_err-put_circumstances.ensures.1 in rw p.1 tt

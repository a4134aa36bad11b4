use Rattle.std.proofs.lemmas.Result.{err_from_is_err_and}
use Rattle.ql_report.proofs.json_execution.put_call.Goals as goal

pub returns-in_err-value : goal.returns-in_err-value
returns-in_err-value c = let p = err_from_is_err_and c.from_residual.result c.from_residual.ensures.1 in rw p.1 tt

pub returns-in_err-put : goal.returns-in_err-put
returns-in_err-put c = let p = err_from_is_err_and c.from_residual-in_err-put.result c.from_residual-in_err-put.ensures.1 in rw p.1 tt

pub returns-in_err-values : goal.returns-in_err-values
returns-in_err-values c = let p = err_from_is_err_and c.from_residual-in_err-values.result c.from_residual-in_err-values.ensures.1 in rw p.1 tt

pub returns-in_err-put-2 : goal.returns-in_err-put-2
returns-in_err-put-2 c = let p = err_from_is_err_and c.from_residual-in_err-put-2.result c.from_residual-in_err-put-2.ensures.1 in rw p.1 tt

pub returns-in_err-put-3 : goal.returns-in_err-put-3
returns-in_err-put-3 c = let p = err_from_is_err_and c.from_residual-in_err-put-3.result c.from_residual-in_err-put-3.ensures.1 in rw p.1 tt

pub returns-in_err-text : goal.returns-in_err-text
returns-in_err-text c = let p = err_from_is_err_and c.from_residual-in_err-text.result c.from_residual-in_err-text.ensures.1 in rw p.1 tt

pub returns-in_err-put-4 : goal.returns-in_err-put-4
returns-in_err-put-4 c = let p = err_from_is_err_and c.from_residual-in_err-put-4.result c.from_residual-in_err-put-4.ensures.1 in rw p.1 tt

pub returns-in_err-text-2 : goal.returns-in_err-text-2
returns-in_err-text-2 c = let p = err_from_is_err_and c.from_residual-in_err-text-2.result c.from_residual-in_err-text-2.ensures.1 in rw p.1 tt

pub returns-in_err-put-5 : goal.returns-in_err-put-5
returns-in_err-put-5 c = let p = err_from_is_err_and c.from_residual-in_err-put-5.result c.from_residual-in_err-put-5.ensures.1 in rw p.1 tt

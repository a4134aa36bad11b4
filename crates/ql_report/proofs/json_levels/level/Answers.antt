use Rattle.std.proofs.lemmas.Result.{err_from_is_err_and}
use Rattle.ql_report.proofs.json_levels.level.Goals as goal

pub returns-in_err-list : goal.returns-in_err-list
returns-in_err-list c = let p = err_from_is_err_and c.from_residual.result c.from_residual.ensures.1 in rw p.1 tt

pub returns-in_err-push_text : goal.returns-in_err-push_text
returns-in_err-push_text c = let p = err_from_is_err_and c.from_residual-in_err-push_text.result c.from_residual-in_err-push_text.ensures.1 in rw p.1 tt

pub returns-in_err-push_text-2 : goal.returns-in_err-push_text-2
returns-in_err-push_text-2 c = let p = err_from_is_err_and c.from_residual-in_err-push_text-2.result c.from_residual-in_err-push_text-2.ensures.1 in rw p.1 tt

pub returns-in_err-push_text-3 : goal.returns-in_err-push_text-3
returns-in_err-push_text-3 c = let p = err_from_is_err_and c.from_residual-in_err-push_text-3.result c.from_residual-in_err-push_text-3.ensures.1 in rw p.1 tt

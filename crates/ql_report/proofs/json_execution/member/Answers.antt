use Rattle.std.proofs.lemmas.Result.{err_from_is_err_and}
use Rattle.ql_report.proofs.json_execution.member.Goals as goal

pub returns-in_err-list-in-Inside : goal.returns-in_err-list-in-Inside
returns-in_err-list-in-Inside c = let p = err_from_is_err_and c.from_residual.result c.from_residual.ensures.1 in rw p.1 tt

pub returns-in_err-push-in-Inside : goal.returns-in_err-push-in-Inside
returns-in_err-push-in-Inside c = let p = err_from_is_err_and c.from_residual-in_err-push-in-Inside.result c.from_residual-in_err-push-in-Inside.ensures.1 in rw p.1 tt

pub returns-in_err-push_text-in-Inside : goal.returns-in_err-push_text-in-Inside
returns-in_err-push_text-in-Inside c = let p = err_from_is_err_and c.from_residual-in_err-push_text-in-Inside.result c.from_residual-in_err-push_text-in-Inside.ensures.1 in rw p.1 tt

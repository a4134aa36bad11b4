use Rattle.std.proofs.lemmas.Result.{err_from_is_err_and}
use Rattle.ql_schedule.proofs.print.push_resend.Goals as goal

pub returns-in_err-push_numbered : goal.returns-in_err-push_numbered
returns-in_err-push_numbered c = let p = err_from_is_err_and c.from_residual.result c.from_residual.ensures.1 in rw p.1 tt

pub returns-in_err-push_numbered-2 : goal.returns-in_err-push_numbered-2
returns-in_err-push_numbered-2 c = let p = err_from_is_err_and c.from_residual-in_err-push_numbered-2.result c.from_residual-in_err-push_numbered-2.ensures.1 in rw p.1 tt

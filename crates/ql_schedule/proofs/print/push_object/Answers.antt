use Rattle.std.proofs.lemmas.Result.{err_from_is_err_and}
use Rattle.ql_schedule.proofs.print.push_object.Goals as goal

pub returns-in_err-push_bytes : goal.returns-in_err-push_bytes
returns-in_err-push_bytes c = let p = err_from_is_err_and c.from_residual.result c.from_residual.ensures.1 in rw p.1 tt

pub returns-in_err-push_field : goal.returns-in_err-push_field
returns-in_err-push_field c = let p = err_from_is_err_and c.from_residual-in_err-push_field.result c.from_residual-in_err-push_field.ensures.1 in rw p.1 tt

pub returns-in_err-push_field-2 : goal.returns-in_err-push_field-2
returns-in_err-push_field-2 c = let p = err_from_is_err_and c.from_residual-in_err-push_field-2.result c.from_residual-in_err-push_field-2.ensures.1 in rw p.1 tt

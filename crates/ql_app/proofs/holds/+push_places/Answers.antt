use Rattle.std.proofs.lemmas.Result.{err_from_is_err_and}
use Rattle.ql_app.proofs.holds.+push_places.Goals as goal

pub returns-in_err-push : goal.returns-in_err-push
returns-in_err-push t c = let p = err_from_is_err_and c.from_residual.result c.from_residual.ensures.1 in rw p.1 tt

pub returns-in_err-push-2 : goal.returns-in_err-push-2
returns-in_err-push-2 t c = let p = err_from_is_err_and c.from_residual-in_err-push-2.result c.from_residual-in_err-push-2.ensures.1 in rw p.1 tt

pub returns-in_err-push_bytes : goal.returns-in_err-push_bytes
returns-in_err-push_bytes t c = let p = err_from_is_err_and c.from_residual-in_err-push_bytes.result c.from_residual-in_err-push_bytes.ensures.1 in rw p.1 tt

pub returns-in_err-push_number : goal.returns-in_err-push_number
returns-in_err-push_number t c = let p = err_from_is_err_and c.from_residual-in_err-push_number.result c.from_residual-in_err-push_number.ensures.1 in rw p.1 tt

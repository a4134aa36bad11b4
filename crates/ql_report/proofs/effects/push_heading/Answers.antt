use Rattle.std.proofs.lemmas.Result.{err_from_is_err_and}
use Rattle.ql_report.proofs.effects.push_heading.Goals as goal

pub returns-in_err-push_bytes : goal.returns-in_err-push_bytes
returns-in_err-push_bytes c = let p = err_from_is_err_and c.from_residual.result c.from_residual.ensures.1 in rw p.1 tt

pub returns-in_err-push_bytes-2 : goal.returns-in_err-push_bytes-2
returns-in_err-push_bytes-2 c = let p = err_from_is_err_and c.from_residual-in_err-push_bytes-2.result c.from_residual-in_err-push_bytes-2.ensures.1 in rw p.1 tt

pub returns-in_err-push_bytes-3 : goal.returns-in_err-push_bytes-3
returns-in_err-push_bytes-3 c = let p = err_from_is_err_and c.from_residual-in_err-push_bytes-3.result c.from_residual-in_err-push_bytes-3.ensures.1 in rw p.1 tt

pub returns-in_err-push_bytes-4 : goal.returns-in_err-push_bytes-4
returns-in_err-push_bytes-4 c = let p = err_from_is_err_and c.from_residual-in_err-push_bytes-4.result c.from_residual-in_err-push_bytes-4.ensures.1 in rw p.1 tt

pub returns-in_err-push_number : goal.returns-in_err-push_number
returns-in_err-push_number c = let p = err_from_is_err_and c.from_residual-in_err-push_number.result c.from_residual-in_err-push_number.ensures.1 in rw p.1 tt

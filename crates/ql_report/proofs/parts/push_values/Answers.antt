use Rattle.std.proofs.lemmas.Result.{err_from_is_err_and}
use Rattle.ql_report.proofs.parts.push_values.Goals as goal

pub returns-in_err-print_value-clause-text : goal.returns-in_err-print_value-clause-text
returns-in_err-print_value-clause-text c = let p = err_from_is_err_and c.from_residual-in_err-print_value.result c.from_residual-in_err-print_value.ensures.1 in rw p.1 tt

pub returns-in_err-print_value-clause-values : goal.returns-in_err-print_value-clause-values
returns-in_err-print_value-clause-values c = let p = err_from_is_err_and c.from_residual-in_err-print_value.result c.from_residual-in_err-print_value.ensures.1 in rw p.1 tt

pub returns-in_err-push_bytes-clause-text : goal.returns-in_err-push_bytes-clause-text
returns-in_err-push_bytes-clause-text c = let p = err_from_is_err_and c.from_residual.result c.from_residual.ensures.1 in rw p.1 tt

pub returns-in_err-push_bytes-clause-values : goal.returns-in_err-push_bytes-clause-values
returns-in_err-push_bytes-clause-values c = let p = err_from_is_err_and c.from_residual.result c.from_residual.ensures.1 in rw p.1 tt

pub returns-in_err-push_followed-clause-text : goal.returns-in_err-push_followed-clause-text
returns-in_err-push_followed-clause-text c = let p = err_from_is_err_and c.from_residual-in_err-push_followed.result c.from_residual-in_err-push_followed.ensures.1 in rw p.1 tt

pub returns-in_err-push_followed-clause-values : goal.returns-in_err-push_followed-clause-values
returns-in_err-push_followed-clause-values c = let p = err_from_is_err_and c.from_residual-in_err-push_followed.result c.from_residual-in_err-push_followed.ensures.1 in rw p.1 tt

use Rattle.std.proofs.lemmas.Result.{err_from_is_err_and}
use Rattle.ql_lang.proofs.print_programs.push_emission.Goals as goal

pub returns-in_err-push_bindings : goal.returns-in_err-push_bindings
returns-in_err-push_bindings c = let p = err_from_is_err_and c.from_residual-in_err-push_bindings.result c.from_residual-in_err-push_bindings.ensures.1 in rw p.1 tt

pub returns-in_err-push_bytes : goal.returns-in_err-push_bytes
returns-in_err-push_bytes c = let p = err_from_is_err_and c.from_residual.result c.from_residual.ensures.1 in rw p.1 tt

pub returns-in_err-push_bytes-2 : goal.returns-in_err-push_bytes-2
returns-in_err-push_bytes-2 c = let p = err_from_is_err_and c.from_residual-in_err-push_bytes-2.result c.from_residual-in_err-push_bytes-2.ensures.1 in rw p.1 tt

pub returns-in_err-push_bytes-3 : goal.returns-in_err-push_bytes-3
returns-in_err-push_bytes-3 c = let p = err_from_is_err_and c.from_residual-in_err-push_bytes-3.result c.from_residual-in_err-push_bytes-3.ensures.1 in rw p.1 tt

pub returns-in_err-push_expression : goal.returns-in_err-push_expression
returns-in_err-push_expression c = let p = err_from_is_err_and c.from_residual-in_err-push_expression.result c.from_residual-in_err-push_expression.ensures.1 in rw p.1 tt

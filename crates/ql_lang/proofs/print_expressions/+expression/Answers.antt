use Rattle.std.proofs.lemmas.Result.{err_from_is_err_and}
use Rattle.ql_lang.proofs.print_expressions.+expression.Goals as goal

pub push_arguments-returns-in_err-push_bytes : goal.push_arguments-returns-in_err-push_bytes
push_arguments-returns-in_err-push_bytes t c = let p = err_from_is_err_and c.from_residual-in_err-push_bytes.result c.from_residual-in_err-push_bytes.ensures.1 in rw p.1 tt

pub push_arguments-returns-in_err-push_expression : goal.push_arguments-returns-in_err-push_expression
push_arguments-returns-in_err-push_expression t c = let p = err_from_is_err_and c.from_residual.result c.from_residual.ensures.1 in rw p.1 tt

pub push_arguments-returns-in_err-push_expression-2 : goal.push_arguments-returns-in_err-push_expression-2
push_arguments-returns-in_err-push_expression-2 t c = let p = err_from_is_err_and c.from_residual-in_err-push_expression-2.result c.from_residual-in_err-push_expression-2.ensures.1 in rw p.1 tt

pub push_expression-returns-in_err-push_all-in-Binary : goal.push_expression-returns-in_err-push_all-in-Binary
push_expression-returns-in_err-push_all-in-Binary t c = let p = err_from_is_err_and c.from_residual-in_err-push_all-in-Binary.result c.from_residual-in_err-push_all-in-Binary.ensures.1 in rw p.1 tt

pub push_expression-returns-in_err-push_all-in-Call : goal.push_expression-returns-in_err-push_all-in-Call
push_expression-returns-in_err-push_all-in-Call t c = let p = err_from_is_err_and c.from_residual.result c.from_residual.ensures.1 in rw p.1 tt

pub push_expression-returns-in_err-push_arguments-in-Call : goal.push_expression-returns-in_err-push_arguments-in-Call
push_expression-returns-in_err-push_arguments-in-Call t c = let p = err_from_is_err_and c.from_residual-in_err-push_arguments-in-Call.result c.from_residual-in_err-push_arguments-in-Call.ensures.1 in rw p.1 tt

pub push_expression-returns-in_err-push_bytes-in-If : goal.push_expression-returns-in_err-push_bytes-in-If
push_expression-returns-in_err-push_bytes-in-If t c = let p = err_from_is_err_and c.from_residual-in_err-push_bytes-in-If.result c.from_residual-in_err-push_bytes-in-If.ensures.1 in rw p.1 tt

pub push_expression-returns-in_err-push_bytes-in-If-2 : goal.push_expression-returns-in_err-push_bytes-in-If-2
push_expression-returns-in_err-push_bytes-in-If-2 t c = let p = err_from_is_err_and c.from_residual-in_err-push_bytes-in-If-2.result c.from_residual-in_err-push_bytes-in-If-2.ensures.1 in rw p.1 tt

pub push_expression-returns-in_err-push_bytes-in-If-3 : goal.push_expression-returns-in_err-push_bytes-in-If-3
push_expression-returns-in_err-push_bytes-in-If-3 t c = let p = err_from_is_err_and c.from_residual-in_err-push_bytes-in-If-3.result c.from_residual-in_err-push_bytes-in-If-3.ensures.1 in rw p.1 tt

pub push_expression-returns-in_err-push_bytes-in-Neg : goal.push_expression-returns-in_err-push_bytes-in-Neg
push_expression-returns-in_err-push_bytes-in-Neg t c = let p = err_from_is_err_and c.from_residual-in_err-push_bytes-in-Neg.result c.from_residual-in_err-push_bytes-in-Neg.ensures.1 in rw p.1 tt

pub push_expression-returns-in_err-push_bytes-in-Not : goal.push_expression-returns-in_err-push_bytes-in-Not
push_expression-returns-in_err-push_bytes-in-Not t c = let p = err_from_is_err_and c.from_residual-in_err-push_bytes-in-Not.result c.from_residual-in_err-push_bytes-in-Not.ensures.1 in rw p.1 tt

pub push_expression-returns-in_err-push_expression-in-If : goal.push_expression-returns-in_err-push_expression-in-If
push_expression-returns-in_err-push_expression-in-If t c = let p = err_from_is_err_and c.from_residual-in_err-push_expression-in-If.result c.from_residual-in_err-push_expression-in-If.ensures.1 in rw p.1 tt

pub push_expression-returns-in_err-push_expression-in-If-2 : goal.push_expression-returns-in_err-push_expression-in-If-2
push_expression-returns-in_err-push_expression-in-If-2 t c = let p = err_from_is_err_and c.from_residual-in_err-push_expression-in-If-2.result c.from_residual-in_err-push_expression-in-If-2.ensures.1 in rw p.1 tt

pub push_expression-returns-in_err-push_operand-in-Binary : goal.push_expression-returns-in_err-push_operand-in-Binary
push_expression-returns-in_err-push_operand-in-Binary t c = let p = err_from_is_err_and c.from_residual-in_err-push_operand-in-Binary.result c.from_residual-in_err-push_operand-in-Binary.ensures.1 in rw p.1 tt

pub push_operand-returns-in_err-push_bytes : goal.push_operand-returns-in_err-push_bytes
push_operand-returns-in_err-push_bytes t c = let p = err_from_is_err_and c.from_residual.result c.from_residual.ensures.1 in rw p.1 tt

pub push_operand-returns-in_err-push_expression : goal.push_operand-returns-in_err-push_expression
push_operand-returns-in_err-push_expression t c = let p = err_from_is_err_and c.from_residual-in_err-push_expression.result c.from_residual-in_err-push_expression.ensures.1 in rw p.1 tt

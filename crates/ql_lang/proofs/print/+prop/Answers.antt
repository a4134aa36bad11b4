use Rattle.std.proofs.lemmas.Result.{err_from_is_err_and}
use Rattle.ql_lang.proofs.print.+prop.Goals as goal

pub push_operand-returns-in_err-push_bytes : goal.push_operand-returns-in_err-push_bytes
push_operand-returns-in_err-push_bytes t c = let p = err_from_is_err_and c.from_residual.result c.from_residual.ensures.1 in rw p.1 tt

pub push_operand-returns-in_err-push_prop : goal.push_operand-returns-in_err-push_prop
push_operand-returns-in_err-push_prop t c = let p = err_from_is_err_and c.from_residual-in_err-push_prop.result c.from_residual-in_err-push_prop.ensures.1 in rw p.1 tt

pub push_prop-returns-in_err-push_bytes-in-And : goal.push_prop-returns-in_err-push_bytes-in-And
push_prop-returns-in_err-push_bytes-in-And t c = let p = err_from_is_err_and c.from_residual-in_err-push_bytes-in-And.result c.from_residual-in_err-push_bytes-in-And.ensures.1 in rw p.1 tt

pub push_prop-returns-in_err-push_bytes-in-Implies : goal.push_prop-returns-in_err-push_bytes-in-Implies
push_prop-returns-in_err-push_bytes-in-Implies t c = let p = err_from_is_err_and c.from_residual-in_err-push_bytes-in-Implies.result c.from_residual-in_err-push_bytes-in-Implies.ensures.1 in rw p.1 tt

pub push_prop-returns-in_err-push_bytes-in-Or : goal.push_prop-returns-in_err-push_bytes-in-Or
push_prop-returns-in_err-push_bytes-in-Or t c = let p = err_from_is_err_and c.from_residual-in_err-push_bytes-in-Or.result c.from_residual-in_err-push_bytes-in-Or.ensures.1 in rw p.1 tt

pub push_prop-returns-in_err-push_operand-in-And : goal.push_prop-returns-in_err-push_operand-in-And
push_prop-returns-in_err-push_operand-in-And t c = let p = err_from_is_err_and c.from_residual.result c.from_residual.ensures.1 in rw p.1 tt

pub push_prop-returns-in_err-push_operand-in-Implies : goal.push_prop-returns-in_err-push_operand-in-Implies
push_prop-returns-in_err-push_operand-in-Implies t c = let p = err_from_is_err_and c.from_residual-in_err-push_operand-in-Implies.result c.from_residual-in_err-push_operand-in-Implies.ensures.1 in rw p.1 tt

pub push_prop-returns-in_err-push_operand-in-Or : goal.push_prop-returns-in_err-push_operand-in-Or
push_prop-returns-in_err-push_operand-in-Or t c = let p = err_from_is_err_and c.from_residual-in_err-push_operand-in-Or.result c.from_residual-in_err-push_operand-in-Or.ensures.1 in rw p.1 tt

use Rattle.std.proofs.lemmas.Result.{err_from_is_err_and}
use Rattle.ql_value.proofs.printing.push_set.Goals as goal

pub returns-in_err-push_bytes-clause-scalars : goal.returns-in_err-push_bytes-clause-scalars
returns-in_err-push_bytes-clause-scalars c = let p = err_from_is_err_and c.from_residual.result c.from_residual.ensures.1 in rw p.1 tt

pub returns-in_err-push_bytes-clause-text : goal.returns-in_err-push_bytes-clause-text
returns-in_err-push_bytes-clause-text c = let p = err_from_is_err_and c.from_residual.result c.from_residual.ensures.1 in rw p.1 tt

pub returns-in_err-push_elements-clause-scalars : goal.returns-in_err-push_elements-clause-scalars
returns-in_err-push_elements-clause-scalars c = let p = err_from_is_err_and c.from_residual-in_err-push_elements.result c.from_residual-in_err-push_elements.ensures.1 in rw p.1 tt

pub returns-in_err-push_elements-clause-text : goal.returns-in_err-push_elements-clause-text
returns-in_err-push_elements-clause-text c = let p = err_from_is_err_and c.from_residual-in_err-push_elements.result c.from_residual-in_err-push_elements.ensures.1 in rw p.1 tt

pub returns-in_err-push_scalar-clause-scalars : goal.returns-in_err-push_scalar-clause-scalars
returns-in_err-push_scalar-clause-scalars c = let p = err_from_is_err_and c.from_residual-in_err-push_scalar.result c.from_residual-in_err-push_scalar.ensures.1 in rw p.1 tt

pub returns-in_err-push_scalar-clause-text : goal.returns-in_err-push_scalar-clause-text
returns-in_err-push_scalar-clause-text c = let p = err_from_is_err_and c.from_residual-in_err-push_scalar.result c.from_residual-in_err-push_scalar.ensures.1 in rw p.1 tt

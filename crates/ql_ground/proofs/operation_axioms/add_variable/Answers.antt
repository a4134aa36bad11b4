use Rattle.std.proofs.lemmas.Result.{err_from_is_err_and}
use Rattle.ql_ground.proofs.operation_axioms.add_variable.Goals as goal

pub returns-in_err-lits-in-OneOf-clause-clauses : goal.returns-in_err-lits-in-OneOf-clause-clauses
returns-in_err-lits-in-OneOf-clause-clauses c = let p = err_from_is_err_and c.from_residual.result c.from_residual.ensures.1 in rw p.1 tt

pub returns-in_err-push_named_operations-in-OneOf-clause-clauses : goal.returns-in_err-push_named_operations-in-OneOf-clause-clauses
returns-in_err-push_named_operations-in-OneOf-clause-clauses c = let p = err_from_is_err_and c.from_residual-in_err-push_named_operations-in-OneOf.result c.from_residual-in_err-push_named_operations-in-OneOf.ensures.1 in rw p.1 tt

use Rattle.std.proofs.lemmas.Result.{err_from_is_err_and}
use Rattle.ql_ground.proofs.operation_axioms.add_other_type.Goals as goal

pub returns-in_err-add_clause-clause-clauses : goal.returns-in_err-add_clause-clause-clauses
returns-in_err-add_clause-clause-clauses c = let p = err_from_is_err_and c.from_residual.result c.from_residual.ensures.1 in rw p.1 tt

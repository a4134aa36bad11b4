use Rattle.std.proofs.lemmas.Result.{err_from_is_err_and}
use Rattle.ql_cnf.proofs.tseitin.define_if_then.Goals as goal

pub returns-in_err-add_three-clause-clauses : goal.returns-in_err-add_three-clause-clauses
returns-in_err-add_three-clause-clauses c = let p = err_from_is_err_and c.from_residual-in_err-add_three.result c.from_residual-in_err-add_three.ensures.1 in rw p.1 tt

pub returns-in_err-add_three-clause-output : goal.returns-in_err-add_three-clause-output
returns-in_err-add_three-clause-output c = let p = err_from_is_err_and c.from_residual-in_err-add_three.result c.from_residual-in_err-add_three.ensures.1 in rw p.1 tt

pub returns-in_err-add_three-clause-variables : goal.returns-in_err-add_three-clause-variables
returns-in_err-add_three-clause-variables c = let p = err_from_is_err_and c.from_residual-in_err-add_three.result c.from_residual-in_err-add_three.ensures.1 in rw p.1 tt

pub returns-in_err-t-clause-clauses : goal.returns-in_err-t-clause-clauses
returns-in_err-t-clause-clauses c = let p = err_from_is_err_and c.from_residual.result c.from_residual.ensures.1 in rw p.1 tt

pub returns-in_err-t-clause-output : goal.returns-in_err-t-clause-output
returns-in_err-t-clause-output c = let p = err_from_is_err_and c.from_residual.result c.from_residual.ensures.1 in rw p.1 tt

pub returns-in_err-t-clause-variables : goal.returns-in_err-t-clause-variables
returns-in_err-t-clause-variables c = let p = err_from_is_err_and c.from_residual.result c.from_residual.ensures.1 in rw p.1 tt

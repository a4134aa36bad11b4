use Rattle.std.proofs.lemmas.Result.{err_from_is_err_and}
use Rattle.ql_cnf.proofs.tseitin.add_three.Goals as goal

pub returns-in_err-append-2-clause-clauses : goal.returns-in_err-append-2-clause-clauses
returns-in_err-append-2-clause-clauses c = let p = err_from_is_err_and c.from_residual-in_err-append-2.result c.from_residual-in_err-append-2.ensures.1 in rw p.1 tt

pub returns-in_err-append-3-clause-clauses : goal.returns-in_err-append-3-clause-clauses
returns-in_err-append-3-clause-clauses c = let p = err_from_is_err_and c.from_residual-in_err-append-3.result c.from_residual-in_err-append-3.ensures.1 in rw p.1 tt

pub returns-in_err-append-clause-clauses : goal.returns-in_err-append-clause-clauses
returns-in_err-append-clause-clauses c = let p = err_from_is_err_and c.from_residual.result c.from_residual.ensures.1 in rw p.1 tt

use Rattle.std.proofs.lemmas.Result.{err_from_is_err_and}
use Rattle.ql_parse.proofs.junction.boxed.Goals as goal

pub returns-in_err-left-clause-left : goal.returns-in_err-left-clause-left
returns-in_err-left-clause-left g c = let p = err_from_is_err_and c.from_residual.result c.from_residual.ensures.1 in rw p.1 tt

pub returns-in_err-left-clause-right : goal.returns-in_err-left-clause-right
returns-in_err-left-clause-right g c = let p = err_from_is_err_and c.from_residual.result c.from_residual.ensures.1 in rw p.1 tt

pub returns-in_err-right-clause-left : goal.returns-in_err-right-clause-left
returns-in_err-right-clause-left g c = let p = err_from_is_err_and c.from_residual-in_err-right.result c.from_residual-in_err-right.ensures.1 in rw p.1 tt

pub returns-in_err-right-clause-right : goal.returns-in_err-right-clause-right
returns-in_err-right-clause-right g c = let p = err_from_is_err_and c.from_residual-in_err-right.result c.from_residual-in_err-right.ensures.1 in rw p.1 tt

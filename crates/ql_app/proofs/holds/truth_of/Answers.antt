use Rattle.std.proofs.lemmas.Result.{err_from_is_err_and}
use Rattle.ql_app.proofs.holds.truth_of.Goals as goal

pub returns-in_err-at_line : goal.returns-in_err-at_line
returns-in_err-at_line c = let p = err_from_is_err_and c.from_residual.result c.from_residual.ensures.1 in rw p.1 tt

pub returns-in_err-fails_line-in-Some : goal.returns-in_err-fails_line-in-Some
returns-in_err-fails_line-in-Some c = let p = err_from_is_err_and c.from_residual-in_err-fails_line-in-Some.result c.from_residual-in_err-fails_line-in-Some.ensures.1 in rw p.1 tt

pub returns-in_err-from_slice-in-None : goal.returns-in_err-from_slice-in-None
returns-in_err-from_slice-in-None c = let p = err_from_is_err_and c.from_residual-in_err-from_slice-in-None.result c.from_residual-in_err-from_slice-in-None.ensures.1 in rw p.1 tt

pub returns-in_err-relations : goal.returns-in_err-relations
returns-in_err-relations c = let p = err_from_is_err_and c.from_residual-in_err-relations.result c.from_residual-in_err-relations.ensures.1 in rw p.1 tt

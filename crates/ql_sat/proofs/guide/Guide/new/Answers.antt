use Rattle.std.proofs.lemmas.Result.{err_from_is_err_and}
use Rattle.ql_sat.proofs.guide.Guide.new.Goals as goal

pub returns-in_err-new-2-clause-few : goal.returns-in_err-new-2-clause-few
returns-in_err-new-2-clause-few c = let p = err_from_is_err_and c.from_residual-in_err-new-2.result c.from_residual-in_err-new-2.ensures.1 in rw p.1 tt

pub returns-in_err-new-2-clause-watched : goal.returns-in_err-new-2-clause-watched
returns-in_err-new-2-clause-watched c = let p = err_from_is_err_and c.from_residual-in_err-new-2.result c.from_residual-in_err-new-2.ensures.1 in rw p.1 tt

pub returns-in_err-new-3-clause-few : goal.returns-in_err-new-3-clause-few
returns-in_err-new-3-clause-few c = let p = err_from_is_err_and c.from_residual-in_err-new-3.result c.from_residual-in_err-new-3.ensures.1 in rw p.1 tt

pub returns-in_err-new-3-clause-watched : goal.returns-in_err-new-3-clause-watched
returns-in_err-new-3-clause-watched c = let p = err_from_is_err_and c.from_residual-in_err-new-3.result c.from_residual-in_err-new-3.ensures.1 in rw p.1 tt

pub returns-in_err-new-clause-few : goal.returns-in_err-new-clause-few
returns-in_err-new-clause-few c = let p = err_from_is_err_and c.from_residual.result c.from_residual.ensures.1 in rw p.1 tt

pub returns-in_err-new-clause-watched : goal.returns-in_err-new-clause-watched
returns-in_err-new-clause-watched c = let p = err_from_is_err_and c.from_residual.result c.from_residual.ensures.1 in rw p.1 tt

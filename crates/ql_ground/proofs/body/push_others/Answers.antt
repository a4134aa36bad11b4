use Rattle.std.proofs.lemmas.Result.{err_from_is_err_and}
use Rattle.ql_ground.proofs.body.push_others.Goals as goal

pub returns-in_err-push : goal.returns-in_err-push
returns-in_err-push c = let p = err_from_is_err_and c.from_residual.result c.from_residual.ensures.1 in rw p.1 tt

pub returns-in_err-push_same : goal.returns-in_err-push_same
returns-in_err-push_same c = let p = err_from_is_err_and c.from_residual-in_err-push_same.result c.from_residual-in_err-push_same.ensures.1 in rw p.1 tt

use Rattle.std.proofs.lemmas.Result.{err_from_is_err_and}
use Rattle.ql_store.proofs.join.add.Goals as goal

pub returns-in_err-push-clause-group : goal.returns-in_err-push-clause-group
returns-in_err-push-clause-group g c = let p = err_from_is_err_and c.from_residual.result c.from_residual.ensures.1 in rw p.1 tt

pub returns-in_err-push-clause-received : goal.returns-in_err-push-clause-received
returns-in_err-push-clause-received g c = let p = err_from_is_err_and c.from_residual.result c.from_residual.ensures.1 in rw p.1 tt

pub returns-in_err-push-clause-reply : goal.returns-in_err-push-clause-reply
returns-in_err-push-clause-reply g c = let p = err_from_is_err_and c.from_residual.result c.from_residual.ensures.1 in rw p.1 tt

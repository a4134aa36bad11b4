use Rattle.std.proofs.lemmas.Result.{err_from_is_err_and}
use Rattle.ql_net.proofs.net.Net.send.Goals as goal

pub returns-in_err-carried-clause-number : goal.returns-in_err-carried-clause-number
returns-in_err-carried-clause-number c = let p = err_from_is_err_and c.from_residual.result c.from_residual.ensures.1 in rw p.1 tt

pub returns-in_err-carried-clause-sent : goal.returns-in_err-carried-clause-sent
returns-in_err-carried-clause-sent c = let p = err_from_is_err_and c.from_residual.result c.from_residual.ensures.1 in rw p.1 tt

pub returns-in_err-push-clause-number : goal.returns-in_err-push-clause-number
returns-in_err-push-clause-number c = let p = err_from_is_err_and c.from_residual-in_err-push.result c.from_residual-in_err-push.ensures.1 in rw p.1 tt

pub returns-in_err-push-clause-sent : goal.returns-in_err-push-clause-sent
returns-in_err-push-clause-sent c = let p = err_from_is_err_and c.from_residual-in_err-push.result c.from_residual-in_err-push.ensures.1 in rw p.1 tt

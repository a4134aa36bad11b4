use Rattle.std.proofs.lemmas.Result.{err_from_is_err_and}
use Rattle.ql_net.proofs.net.Net.send_to_others.Goals as goal

pub returns-in_err-carried-clause-sent : goal.returns-in_err-carried-clause-sent
returns-in_err-carried-clause-sent c = let p = err_from_is_err_and c.from_residual-in_err-carried.result c.from_residual-in_err-carried.ensures.1 in rw p.1 tt

pub returns-in_err-copy-clause-sent : goal.returns-in_err-copy-clause-sent
returns-in_err-copy-clause-sent c = let p = err_from_is_err_and c.from_residual.result c.from_residual.ensures.1 in rw p.1 tt

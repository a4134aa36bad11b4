use Rattle.std.proofs.lemmas.Result.{err_from_is_err_and}
use Rattle.ql_store.proofs.plain.spread_one.Goals as goal

pub returns-in_err-insert-clause-received : goal.returns-in_err-insert-clause-received
returns-in_err-insert-clause-received g c = let p = err_from_is_err_and c.from_residual.result c.from_residual.ensures.1 in rw p.1 tt

pub returns-in_err-insert-clause-sent : goal.returns-in_err-insert-clause-sent
returns-in_err-insert-clause-sent g c = let p = err_from_is_err_and c.from_residual.result c.from_residual.ensures.1 in rw p.1 tt

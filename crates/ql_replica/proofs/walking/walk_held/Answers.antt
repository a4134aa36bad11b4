use Rattle.std.proofs.lemmas.Result.{err_from_is_err_and}
use Rattle.ql_replica.proofs.walking.walk_held.Goals as goal

pub returns-in_err-missing-clause-advances : goal.returns-in_err-missing-clause-advances
returns-in_err-missing-clause-advances c = let p = err_from_is_err_and c.from_residual.result c.from_residual.ensures.1 in rw p.1 tt

pub returns-in_err-missing-clause-decided : goal.returns-in_err-missing-clause-decided
returns-in_err-missing-clause-decided c = let p = err_from_is_err_and c.from_residual.result c.from_residual.ensures.1 in rw p.1 tt

pub returns-in_err-missing-clause-known : goal.returns-in_err-missing-clause-known
returns-in_err-missing-clause-known c = let p = err_from_is_err_and c.from_residual.result c.from_residual.ensures.1 in rw p.1 tt

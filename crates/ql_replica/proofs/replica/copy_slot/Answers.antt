use Rattle.std.proofs.lemmas.Result.{err_from_is_err_and}
use Rattle.ql_replica.proofs.replica.copy_slot.Goals as goal

pub returns-in_err-insert-in-Some : goal.returns-in_err-insert-in-Some
returns-in_err-insert-in-Some c = let p = err_from_is_err_and c.from_residual-in_err-insert-in-Some.result c.from_residual-in_err-insert-in-Some.ensures.1 in rw p.1 tt

pub returns-in_err-pack-in-Some : goal.returns-in_err-pack-in-Some
returns-in_err-pack-in-Some c = let p = err_from_is_err_and c.from_residual.result c.from_residual.ensures.1 in rw p.1 tt

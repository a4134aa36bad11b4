use Rattle.std.proofs.lemmas.Result.{err_from_is_err_and}
use Rattle.ql_replica.proofs.replica.copy_waiting.Goals as goal

pub returns-in_err-copy_slot : goal.returns-in_err-copy_slot
returns-in_err-copy_slot c = let p = err_from_is_err_and c.from_residual.result c.from_residual.ensures.1 in rw p.1 tt

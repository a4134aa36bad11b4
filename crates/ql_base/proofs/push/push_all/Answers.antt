use Rattle.std.proofs.lemmas.Result.{err_from_is_err_and}
use Rattle.ql_base.proofs.push.push_all.Goals as goal

pub returns-in_err-push_bytes : goal.returns-in_err-push_bytes
returns-in_err-push_bytes c = let p = err_from_is_err_and c.from_residual.result c.from_residual.ensures.1 in rw p.1 tt

use Rattle.std.proofs.lemmas.Result.{err_from_is_err_and}
use Rattle.ql_warnings.proofs.named.named.Goals as goal

pub returns-in_err-push_named : goal.returns-in_err-push_named
returns-in_err-push_named c = let p = err_from_is_err_and c.from_residual.result c.from_residual.ensures.1 in rw p.1 tt

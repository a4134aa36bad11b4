use Rattle.std.proofs.lemmas.Result.{err_from_is_err_and}
use Rattle.ql_warnings.proofs.premises.premises.Goals as goal

pub returns-in_err-push_premises : goal.returns-in_err-push_premises
returns-in_err-push_premises c = let p = err_from_is_err_and c.from_residual.result c.from_residual.ensures.1 in rw p.1 tt

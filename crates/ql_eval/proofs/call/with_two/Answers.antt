use Rattle.std.proofs.lemmas.Result.{err_from_is_err_and}
use Rattle.ql_eval.proofs.call.with_two.Goals as goal

pub returns-in_err-union : goal.returns-in_err-union
returns-in_err-union c = let p = err_from_is_err_and c.from_residual.result c.from_residual.ensures.1 in rw p.1 tt

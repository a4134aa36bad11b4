use Rattle.std.proofs.lemmas.Result.{err_from_is_err_and}
use Rattle.ql_eval.proofs.folder.try_answer.Goals as goal

pub returns-in_err-state : goal.returns-in_err-state
returns-in_err-state c = let p = err_from_is_err_and c.from_residual.result c.from_residual.ensures.1 in rw p.1 tt

use Rattle.std.proofs.lemmas.Result.{err_from_is_err_and}
use Rattle.ql_why.proofs.counter_text.push_execution.Goals as goal

pub returns-in_err-effects : goal.returns-in_err-effects
returns-in_err-effects c = let p = err_from_is_err_and c.from_residual-in_err-effects.result c.from_residual-in_err-effects.ensures.1 in rw p.1 tt

pub returns-in_err-objects : goal.returns-in_err-objects
returns-in_err-objects c = let p = err_from_is_err_and c.from_residual.result c.from_residual.ensures.1 in rw p.1 tt

pub returns-in_err-push_bytes : goal.returns-in_err-push_bytes
returns-in_err-push_bytes c = let p = err_from_is_err_and c.from_residual-in_err-push_bytes.result c.from_residual-in_err-push_bytes.ensures.1 in rw p.1 tt

pub returns-in_err-push_bytes-2 : goal.returns-in_err-push_bytes-2
returns-in_err-push_bytes-2 c = let p = err_from_is_err_and c.from_residual-in_err-push_bytes-2.result c.from_residual-in_err-push_bytes-2.ensures.1 in rw p.1 tt

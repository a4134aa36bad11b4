use Rattle.std.proofs.lemmas.Result.{err_from_is_err_and}
use Rattle.ql_why.proofs.counter_text.push_heading.Goals as goal

pub returns-in_err-push_at : goal.returns-in_err-push_at
returns-in_err-push_at c = let p = err_from_is_err_and c.from_residual-in_err-push_at.result c.from_residual-in_err-push_at.ensures.1 in rw p.1 tt

pub returns-in_err-push_bytes : goal.returns-in_err-push_bytes
returns-in_err-push_bytes c = let p = err_from_is_err_and c.from_residual.result c.from_residual.ensures.1 in rw p.1 tt

pub returns-in_err-push_bytes-2 : goal.returns-in_err-push_bytes-2
returns-in_err-push_bytes-2 c = let p = err_from_is_err_and c.from_residual-in_err-push_bytes-2.result c.from_residual-in_err-push_bytes-2.ensures.1 in rw p.1 tt

pub returns-in_err-push_places : goal.returns-in_err-push_places
returns-in_err-push_places c = let p = err_from_is_err_and c.from_residual-in_err-push_places.result c.from_residual-in_err-push_places.ensures.1 in rw p.1 tt

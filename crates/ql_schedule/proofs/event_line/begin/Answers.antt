use Rattle.std.proofs.lemmas.Result.{err_from_is_err_and}
use Rattle.ql_schedule.proofs.event_line.begin.Goals as goal

pub returns-in_err-objects : goal.returns-in_err-objects
returns-in_err-objects c = let p = err_from_is_err_and c.from_residual.result c.from_residual.ensures.1 in rw p.1 tt

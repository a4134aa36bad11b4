use Rattle.std.proofs.lemmas.Result.{err_from_is_err_and}
use Rattle.ql_schedule.proofs.event_line.call.Goals as goal

pub returns-in_err-args : goal.returns-in_err-args
returns-in_err-args c = let p = err_from_is_err_and c.from_residual.result c.from_residual.ensures.1 in rw p.1 tt

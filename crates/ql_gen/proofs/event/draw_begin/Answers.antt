use Rattle.std.proofs.lemmas.Result.{err_from_is_err_and}
use Rattle.ql_gen.proofs.event.draw_begin.Goals as goal

pub returns-in_err-objects-clause-event : goal.returns-in_err-objects-clause-event
returns-in_err-objects-clause-event c = let p = err_from_is_err_and c.from_residual.result c.from_residual.ensures.1 in rw p.1 tt

pub returns-in_err-objects-clause-state : goal.returns-in_err-objects-clause-state
returns-in_err-objects-clause-state c = let p = err_from_is_err_and c.from_residual.result c.from_residual.ensures.1 in rw p.1 tt

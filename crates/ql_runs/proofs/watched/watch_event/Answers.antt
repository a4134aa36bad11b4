use Rattle.std.proofs.lemmas.Result.{err_from_is_err_and}
use Rattle.ql_runs.proofs.watched.watch_event.Goals as goal

pub returns-in_err-now-clause-arrivals : goal.returns-in_err-now-clause-arrivals
returns-in_err-now-clause-arrivals g c = let p = err_from_is_err_and c.from_residual-in_err-now.result c.from_residual-in_err-now.ensures.1 in rw p.1 tt

pub returns-in_err-now-clause-levels : goal.returns-in_err-now-clause-levels
returns-in_err-now-clause-levels g c = let p = err_from_is_err_and c.from_residual-in_err-now.result c.from_residual-in_err-now.ensures.1 in rw p.1 tt

pub returns-in_err-now-clause-received : goal.returns-in_err-now-clause-received
returns-in_err-now-clause-received g c = let p = err_from_is_err_and c.from_residual-in_err-now.result c.from_residual-in_err-now.ensures.1 in rw p.1 tt

pub returns-in_err-now-clause-step : goal.returns-in_err-now-clause-step
returns-in_err-now-clause-step g c = let p = err_from_is_err_and c.from_residual-in_err-now.result c.from_residual-in_err-now.ensures.1 in rw p.1 tt

pub returns-in_err-push_new-clause-arrivals : goal.returns-in_err-push_new-clause-arrivals
returns-in_err-push_new-clause-arrivals g c = let p = err_from_is_err_and c.from_residual-in_err-push_new.result c.from_residual-in_err-push_new.ensures.1 in rw p.1 tt

pub returns-in_err-push_new-clause-levels : goal.returns-in_err-push_new-clause-levels
returns-in_err-push_new-clause-levels g c = let p = err_from_is_err_and c.from_residual-in_err-push_new.result c.from_residual-in_err-push_new.ensures.1 in rw p.1 tt

pub returns-in_err-push_new-clause-received : goal.returns-in_err-push_new-clause-received
returns-in_err-push_new-clause-received g c = let p = err_from_is_err_and c.from_residual-in_err-push_new.result c.from_residual-in_err-push_new.ensures.1 in rw p.1 tt

pub returns-in_err-push_new-clause-step : goal.returns-in_err-push_new-clause-step
returns-in_err-push_new-clause-step g c = let p = err_from_is_err_and c.from_residual-in_err-push_new.result c.from_residual-in_err-push_new.ensures.1 in rw p.1 tt

pub returns-in_err-step-clause-arrivals : goal.returns-in_err-step-clause-arrivals
returns-in_err-step-clause-arrivals g c = let p = err_from_is_err_and c.from_residual.result c.from_residual.ensures.1 in rw p.1 tt

pub returns-in_err-step-clause-levels : goal.returns-in_err-step-clause-levels
returns-in_err-step-clause-levels g c = let p = err_from_is_err_and c.from_residual.result c.from_residual.ensures.1 in rw p.1 tt

pub returns-in_err-step-clause-received : goal.returns-in_err-step-clause-received
returns-in_err-step-clause-received g c = let p = err_from_is_err_and c.from_residual.result c.from_residual.ensures.1 in rw p.1 tt

pub returns-in_err-step-clause-step : goal.returns-in_err-step-clause-step
returns-in_err-step-clause-step g c = let p = err_from_is_err_and c.from_residual.result c.from_residual.ensures.1 in rw p.1 tt

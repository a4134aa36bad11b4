use Rattle.std.proofs.lemmas.Result.{err_from_is_err_and}
use Rattle.ql_gen.proofs.event.draw_args.Goals as goal

pub returns-in_err-args-clause-args : goal.returns-in_err-args-clause-args
returns-in_err-args-clause-args c = let p = err_from_is_err_and c.from_residual.result c.from_residual.ensures.1 in rw p.1 tt

pub returns-in_err-args-clause-state : goal.returns-in_err-args-clause-state
returns-in_err-args-clause-state c = let p = err_from_is_err_and c.from_residual.result c.from_residual.ensures.1 in rw p.1 tt

pub returns-in_err-draw_arg-clause-args : goal.returns-in_err-draw_arg-clause-args
returns-in_err-draw_arg-clause-args c = let p = err_from_is_err_and c.from_residual-in_err-draw_arg.result c.from_residual-in_err-draw_arg.ensures.1 in rw p.1 tt

pub returns-in_err-draw_arg-clause-state : goal.returns-in_err-draw_arg-clause-state
returns-in_err-draw_arg-clause-state c = let p = err_from_is_err_and c.from_residual-in_err-draw_arg.result c.from_residual-in_err-draw_arg.ensures.1 in rw p.1 tt

pub returns-in_err-push-clause-args : goal.returns-in_err-push-clause-args
returns-in_err-push-clause-args c = let p = err_from_is_err_and c.from_residual-in_err-push.result c.from_residual-in_err-push.ensures.1 in rw p.1 tt

pub returns-in_err-push-clause-state : goal.returns-in_err-push-clause-state
returns-in_err-push-clause-state c = let p = err_from_is_err_and c.from_residual-in_err-push.result c.from_residual-in_err-push.ensures.1 in rw p.1 tt

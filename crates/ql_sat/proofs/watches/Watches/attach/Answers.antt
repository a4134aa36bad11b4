use Rattle.std.proofs.lemmas.Result.{err_from_is_err_and}
use Rattle.ql_sat.proofs.watches.Watches.attach.Goals as goal

pub returns-in_err-enter-2-clause-len : goal.returns-in_err-enter-2-clause-len
returns-in_err-enter-2-clause-len c = let p = err_from_is_err_and c.from_residual-in_err-enter-2.result c.from_residual-in_err-enter-2.ensures.1 in rw p.1 tt

pub returns-in_err-enter-2-clause-pair : goal.returns-in_err-enter-2-clause-pair
returns-in_err-enter-2-clause-pair c = let p = err_from_is_err_and c.from_residual-in_err-enter-2.result c.from_residual-in_err-enter-2.ensures.1 in rw p.1 tt

pub returns-in_err-enter-clause-len : goal.returns-in_err-enter-clause-len
returns-in_err-enter-clause-len c = let p = err_from_is_err_and c.from_residual.result c.from_residual.ensures.1 in rw p.1 tt

pub returns-in_err-enter-clause-pair : goal.returns-in_err-enter-clause-pair
returns-in_err-enter-clause-pair c = let p = err_from_is_err_and c.from_residual.result c.from_residual.ensures.1 in rw p.1 tt

pub returns-in_err-push-clause-len : goal.returns-in_err-push-clause-len
returns-in_err-push-clause-len c = let p = err_from_is_err_and c.from_residual-in_err-push.result c.from_residual-in_err-push.ensures.1 in rw p.1 tt

pub returns-in_err-push-clause-pair : goal.returns-in_err-push-clause-pair
returns-in_err-push-clause-pair c = let p = err_from_is_err_and c.from_residual-in_err-push.result c.from_residual-in_err-push.ensures.1 in rw p.1 tt

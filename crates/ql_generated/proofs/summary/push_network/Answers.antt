use Rattle.std.proofs.lemmas.Result.{err_from_is_err_and}
use Rattle.ql_generated.proofs.summary.push_network.Goals as goal

pub returns-in_err-push_count : goal.returns-in_err-push_count
returns-in_err-push_count c = let p = err_from_is_err_and c.from_residual.result c.from_residual.ensures.1 in rw p.1 tt

pub returns-in_err-push_count-2 : goal.returns-in_err-push_count-2
returns-in_err-push_count-2 c = let p = err_from_is_err_and c.from_residual-in_err-push_count-2.result c.from_residual-in_err-push_count-2.ensures.1 in rw p.1 tt

pub returns-in_err-push_count-3 : goal.returns-in_err-push_count-3
returns-in_err-push_count-3 c = let p = err_from_is_err_and c.from_residual-in_err-push_count-3.result c.from_residual-in_err-push_count-3.ensures.1 in rw p.1 tt

use Rattle.std.proofs.lemmas.Result.{err_from_is_err_and}
use Rattle.ql_generated.proofs.summary.print_summary.Goals as goal

pub returns-in_err-push_calls : goal.returns-in_err-push_calls
returns-in_err-push_calls c = let p = err_from_is_err_and c.from_residual-in_err-push_calls.result c.from_residual-in_err-push_calls.ensures.1 in rw p.1 tt

pub returns-in_err-push_line : goal.returns-in_err-push_line
returns-in_err-push_line c = let p = err_from_is_err_and c.from_residual.result c.from_residual.ensures.1 in rw p.1 tt

pub returns-in_err-push_line-2 : goal.returns-in_err-push_line-2
returns-in_err-push_line-2 c = let p = err_from_is_err_and c.from_residual-in_err-push_line-2.result c.from_residual-in_err-push_line-2.ensures.1 in rw p.1 tt

pub returns-in_err-push_line-3 : goal.returns-in_err-push_line-3
returns-in_err-push_line-3 c = let p = err_from_is_err_and c.from_residual-in_err-push_line-3.result c.from_residual-in_err-push_line-3.ensures.1 in rw p.1 tt

pub returns-in_err-push_line-4 : goal.returns-in_err-push_line-4
returns-in_err-push_line-4 c = let p = err_from_is_err_and c.from_residual-in_err-push_line-4.result c.from_residual-in_err-push_line-4.ensures.1 in rw p.1 tt

pub returns-in_err-push_messages : goal.returns-in_err-push_messages
returns-in_err-push_messages c = let p = err_from_is_err_and c.from_residual-in_err-push_messages.result c.from_residual-in_err-push_messages.ensures.1 in rw p.1 tt

pub returns-in_err-push_network : goal.returns-in_err-push_network
returns-in_err-push_network c = let p = err_from_is_err_and c.from_residual-in_err-push_network.result c.from_residual-in_err-push_network.ensures.1 in rw p.1 tt

use Rattle.std.proofs.lemmas.Result.{err_from_is_err_and}
use Rattle.ql_report.proofs.run.print_run.Goals as goal

pub returns-in_err-push_bytes-clause-text : goal.returns-in_err-push_bytes-clause-text
returns-in_err-push_bytes-clause-text c = let p = err_from_is_err_and c.from_residual.result c.from_residual.ensures.1 in rw p.1 tt

pub returns-in_err-push_bytes-clause-values : goal.returns-in_err-push_bytes-clause-values
returns-in_err-push_bytes-clause-values c = let p = err_from_is_err_and c.from_residual.result c.from_residual.ensures.1 in rw p.1 tt

pub returns-in_err-print_levels-clause-text : goal.returns-in_err-print_levels-clause-text
returns-in_err-print_levels-clause-text c = let p = err_from_is_err_and c.from_residual-in_err-print_levels.result c.from_residual-in_err-print_levels.ensures.1 in rw p.1 tt

pub returns-in_err-print_levels-clause-values : goal.returns-in_err-print_levels-clause-values
returns-in_err-print_levels-clause-values c = let p = err_from_is_err_and c.from_residual-in_err-print_levels.result c.from_residual-in_err-print_levels.ensures.1 in rw p.1 tt

pub returns-in_err-push_bytes-2-clause-text : goal.returns-in_err-push_bytes-2-clause-text
returns-in_err-push_bytes-2-clause-text c = let p = err_from_is_err_and c.from_residual-in_err-push_bytes-2.result c.from_residual-in_err-push_bytes-2.ensures.1 in rw p.1 tt

pub returns-in_err-push_bytes-2-clause-values : goal.returns-in_err-push_bytes-2-clause-values
returns-in_err-push_bytes-2-clause-values c = let p = err_from_is_err_and c.from_residual-in_err-push_bytes-2.result c.from_residual-in_err-push_bytes-2.ensures.1 in rw p.1 tt

pub returns-in_err-push_bytes-3-clause-text : goal.returns-in_err-push_bytes-3-clause-text
returns-in_err-push_bytes-3-clause-text c = let p = err_from_is_err_and c.from_residual-in_err-push_bytes-3.result c.from_residual-in_err-push_bytes-3.ensures.1 in rw p.1 tt

pub returns-in_err-push_bytes-3-clause-values : goal.returns-in_err-push_bytes-3-clause-values
returns-in_err-push_bytes-3-clause-values c = let p = err_from_is_err_and c.from_residual-in_err-push_bytes-3.result c.from_residual-in_err-push_bytes-3.ensures.1 in rw p.1 tt

pub returns-in_err-push_replies-clause-text : goal.returns-in_err-push_replies-clause-text
returns-in_err-push_replies-clause-text c = let p = err_from_is_err_and c.from_residual-in_err-push_replies.result c.from_residual-in_err-push_replies.ensures.1 in rw p.1 tt

pub returns-in_err-push_replies-clause-values : goal.returns-in_err-push_replies-clause-values
returns-in_err-push_replies-clause-values c = let p = err_from_is_err_and c.from_residual-in_err-push_replies.result c.from_residual-in_err-push_replies.ensures.1 in rw p.1 tt

pub returns-in_err-push_bytes-4-clause-text : goal.returns-in_err-push_bytes-4-clause-text
returns-in_err-push_bytes-4-clause-text c = let p = err_from_is_err_and c.from_residual-in_err-push_bytes-4.result c.from_residual-in_err-push_bytes-4.ensures.1 in rw p.1 tt

pub returns-in_err-push_bytes-4-clause-values : goal.returns-in_err-push_bytes-4-clause-values
returns-in_err-push_bytes-4-clause-values c = let p = err_from_is_err_and c.from_residual-in_err-push_bytes-4.result c.from_residual-in_err-push_bytes-4.ensures.1 in rw p.1 tt

pub returns-in_err-push_effects-clause-text : goal.returns-in_err-push_effects-clause-text
returns-in_err-push_effects-clause-text c = let p = err_from_is_err_and c.from_residual-in_err-push_effects.result c.from_residual-in_err-push_effects.ensures.1 in rw p.1 tt

pub returns-in_err-push_effects-clause-values : goal.returns-in_err-push_effects-clause-values
returns-in_err-push_effects-clause-values c = let p = err_from_is_err_and c.from_residual-in_err-push_effects.result c.from_residual-in_err-push_effects.ensures.1 in rw p.1 tt

pub returns-in_err-push_bytes-5-clause-text : goal.returns-in_err-push_bytes-5-clause-text
returns-in_err-push_bytes-5-clause-text c = let p = err_from_is_err_and c.from_residual-in_err-push_bytes-5.result c.from_residual-in_err-push_bytes-5.ensures.1 in rw p.1 tt

pub returns-in_err-push_bytes-5-clause-values : goal.returns-in_err-push_bytes-5-clause-values
returns-in_err-push_bytes-5-clause-values c = let p = err_from_is_err_and c.from_residual-in_err-push_bytes-5.result c.from_residual-in_err-push_bytes-5.ensures.1 in rw p.1 tt

use Rattle.std.proofs.lemmas.Result.{err_from_is_err_and}
use Rattle.ql_summary.proofs.advance.advanced.Goals as goal

pub returns-in_err-ids-clause-ids : goal.returns-in_err-ids-clause-ids
returns-in_err-ids-clause-ids c = let p = err_from_is_err_and c.from_residual-in_err-ids.result c.from_residual-in_err-ids.ensures.1 in rw p.1 tt

pub returns-in_err-ids-clause-state : goal.returns-in_err-ids-clause-state
returns-in_err-ids-clause-state c = let p = err_from_is_err_and c.from_residual-in_err-ids.result c.from_residual-in_err-ids.ensures.1 in rw p.1 tt

pub returns-in_err-state-2-clause-ids : goal.returns-in_err-state-2-clause-ids
returns-in_err-state-2-clause-ids c = let p = err_from_is_err_and c.from_residual-in_err-state-2.result c.from_residual-in_err-state-2.ensures.1 in rw p.1 tt

pub returns-in_err-state-2-clause-state : goal.returns-in_err-state-2-clause-state
returns-in_err-state-2-clause-state c = let p = err_from_is_err_and c.from_residual-in_err-state-2.result c.from_residual-in_err-state-2.ensures.1 in rw p.1 tt

pub returns-in_err-state-clause-ids : goal.returns-in_err-state-clause-ids
returns-in_err-state-clause-ids c = let p = err_from_is_err_and c.from_residual.result c.from_residual.ensures.1 in rw p.1 tt

pub returns-in_err-state-clause-state : goal.returns-in_err-state-clause-state
returns-in_err-state-clause-state c = let p = err_from_is_err_and c.from_residual.result c.from_residual.ensures.1 in rw p.1 tt

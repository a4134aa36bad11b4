use Rattle.std.proofs.lemmas.Result.{err_from_is_err_and}
use Rattle.ql_exec.proofs.LatestLaws.{KnowsRuns-with, has_id-new}
use Rattle.ql_exec.proofs.execution.make_room.Goals as goal

pub returns-in_ok-insert-clause-runs : goal.returns-in_ok-insert-clause-runs
returns-in_ok-insert-clause-runs c = λ x known. rw c.in_ok-insert.ensures.added (KnowsRuns-with c.args.runs.now c.in-Inside.run'.0 x known)

pub returns-in_ok-insert-clause-run : goal.returns-in_ok-insert-clause-run
returns-in_ok-insert-clause-run c = rw (c.in-Inside.is, c.in_ok-insert.ensures.added) (has_id-new c.args.runs.now c.in-Inside.run'.0)

pub returns-in_err-include-clause-entry : goal.returns-in_err-include-clause-entry
returns-in_err-include-clause-entry c = let p = err_from_is_err_and c.from_residual.result c.from_residual.ensures.1 in rw p.1 tt

pub returns-in_err-include-clause-run : goal.returns-in_err-include-clause-run
returns-in_err-include-clause-run c = let p = err_from_is_err_and c.from_residual.result c.from_residual.ensures.1 in rw p.1 tt

pub returns-in_err-insert-clause-entry : goal.returns-in_err-insert-clause-entry
returns-in_err-insert-clause-entry c = let p = err_from_is_err_and c.from_residual-in_err-insert.result c.from_residual-in_err-insert.ensures.1 in rw p.1 tt

pub returns-in_err-insert-clause-run : goal.returns-in_err-insert-clause-run
returns-in_err-insert-clause-run c = let p = err_from_is_err_and c.from_residual-in_err-insert.result c.from_residual-in_err-insert.ensures.1 in rw p.1 tt

use Rattle.std.proofs.lemmas.Result.{err_from_is_err_and}
use Rattle.ql_verify.proofs.verifying.verify.Goals as goal

pub returns-in_err-relations-clause-judged : goal.returns-in_err-relations-clause-judged
returns-in_err-relations-clause-judged c = let p = err_from_is_err_and c.from_residual-in_err-relations.result c.from_residual-in_err-relations.ensures.1 in rw p.1 tt

pub returns-in_err-relations-clause-verdict : goal.returns-in_err-relations-clause-verdict
returns-in_err-relations-clause-verdict c = let p = err_from_is_err_and c.from_residual-in_err-relations.result c.from_residual-in_err-relations.ensures.1 in rw p.1 tt

pub returns-in_err-run-clause-judged : goal.returns-in_err-run-clause-judged
returns-in_err-run-clause-judged c = let p = err_from_is_err_and c.from_residual-in_err-run.result c.from_residual-in_err-run.ensures.1 in rw p.1 tt

pub returns-in_err-run-clause-verdict : goal.returns-in_err-run-clause-verdict
returns-in_err-run-clause-verdict c = let p = err_from_is_err_and c.from_residual-in_err-run.result c.from_residual-in_err-run.ensures.1 in rw p.1 tt

pub returns-in_err-work-clause-judged : goal.returns-in_err-work-clause-judged
returns-in_err-work-clause-judged c = let p = err_from_is_err_and c.from_residual.result c.from_residual.ensures.1 in rw p.1 tt

pub returns-in_err-work-clause-verdict : goal.returns-in_err-work-clause-verdict
returns-in_err-work-clause-verdict c = let p = err_from_is_err_and c.from_residual.result c.from_residual.ensures.1 in rw p.1 tt

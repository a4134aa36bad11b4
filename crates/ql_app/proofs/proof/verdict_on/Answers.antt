use Rattle.std.proofs.lemmas.Result.{err_from_is_err_and}
use Rattle.ql_app.proofs.proof.verdict_on.Goals as goal

pub returns-in_err-from_slice-in-None : goal.returns-in_err-from_slice-in-None
returns-in_err-from_slice-in-None c = let p = err_from_is_err_and c.from_residual-in_err-from_slice-in-None.result c.from_residual-in_err-from_slice-in-None.ensures.1 in rw p.1 tt

pub returns-in_err-marks : goal.returns-in_err-marks
returns-in_err-marks c = let p = err_from_is_err_and c.from_residual.result c.from_residual.ensures.1 in rw p.1 tt

pub returns-in_err-refusal : goal.returns-in_err-refusal
returns-in_err-refusal c = let p = err_from_is_err_and c.from_residual-in_err-refusal.result c.from_residual-in_err-refusal.ensures.1 in rw p.1 tt

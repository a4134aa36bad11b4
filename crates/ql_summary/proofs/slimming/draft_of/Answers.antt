use Rattle.std.proofs.lemmas.Result.{err_from_is_err_and}
use Rattle.ql_summary.proofs.slimming.draft_of.Goals as goal

pub returns-in_err-copy : goal.returns-in_err-copy
returns-in_err-copy c = let p = err_from_is_err_and c.from_residual-in_err-copy.result c.from_residual-in_err-copy.ensures.1 in rw p.1 tt

pub returns-in_err-copy-2 : goal.returns-in_err-copy-2
returns-in_err-copy-2 c = let p = err_from_is_err_and c.from_residual-in_err-copy-2.result c.from_residual-in_err-copy-2.ensures.1 in rw p.1 tt

pub returns-in_err-copy_payload : goal.returns-in_err-copy_payload
returns-in_err-copy_payload c = let p = err_from_is_err_and c.from_residual-in_err-copy_payload.result c.from_residual-in_err-copy_payload.ensures.1 in rw p.1 tt

pub returns-in_err-copy_values : goal.returns-in_err-copy_values
returns-in_err-copy_values c = let p = err_from_is_err_and c.from_residual.result c.from_residual.ensures.1 in rw p.1 tt

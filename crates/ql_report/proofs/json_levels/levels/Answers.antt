use Rattle.std.proofs.lemmas.Result.{err_from_is_err_and}
use Rattle.ql_report.proofs.json_levels.levels.Goals as goal

pub returns-in_err-push_ops : goal.returns-in_err-push_ops
returns-in_err-push_ops c = let p = err_from_is_err_and c.from_residual.result c.from_residual.ensures.1 in rw p.1 tt

pub returns-in_err-push_txns : goal.returns-in_err-push_txns
returns-in_err-push_txns c = let p = err_from_is_err_and c.from_residual-in_err-push_txns.result c.from_residual-in_err-push_txns.ensures.1 in rw p.1 tt

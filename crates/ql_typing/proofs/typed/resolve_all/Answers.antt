use Rattle.std.proofs.lemmas.Result.{err_from_is_err_and}
use Rattle.ql_typing.proofs.typed.resolve_all.Goals as goal

pub returns-in_err-of_ops-clause-of_ops : goal.returns-in_err-of_ops-clause-of_ops
returns-in_err-of_ops-clause-of_ops c = let p = err_from_is_err_and c.from_residual.result c.from_residual.ensures.1 in rw p.1 tt

pub returns-in_err-of_ops-clause-of_txns : goal.returns-in_err-of_ops-clause-of_txns
returns-in_err-of_ops-clause-of_txns c = let p = err_from_is_err_and c.from_residual.result c.from_residual.ensures.1 in rw p.1 tt

pub returns-in_err-of_txns-clause-of_ops : goal.returns-in_err-of_txns-clause-of_ops
returns-in_err-of_txns-clause-of_ops c = let p = err_from_is_err_and c.from_residual-in_err-of_txns.result c.from_residual-in_err-of_txns.ensures.1 in rw p.1 tt

pub returns-in_err-of_txns-clause-of_txns : goal.returns-in_err-of_txns-clause-of_txns
returns-in_err-of_txns-clause-of_txns c = let p = err_from_is_err_and c.from_residual-in_err-of_txns.result c.from_residual-in_err-of_txns.ensures.1 in rw p.1 tt

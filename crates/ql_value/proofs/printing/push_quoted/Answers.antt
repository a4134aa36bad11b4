use Rattle.std.proofs.lemmas.Result.{err_from_is_err_and}
use Rattle.ql_value.proofs.printing.push_quoted.Goals as goal

pub returns-in_err-push_bytes-2-clause-plain : goal.returns-in_err-push_bytes-2-clause-plain
returns-in_err-push_bytes-2-clause-plain c = let p = err_from_is_err_and c.from_residual-in_err-push_bytes-2.result c.from_residual-in_err-push_bytes-2.ensures.1 in rw p.1 tt

pub returns-in_err-push_bytes-2-clause-text : goal.returns-in_err-push_bytes-2-clause-text
returns-in_err-push_bytes-2-clause-text c = let p = err_from_is_err_and c.from_residual-in_err-push_bytes-2.result c.from_residual-in_err-push_bytes-2.ensures.1 in rw p.1 tt

pub returns-in_err-push_bytes-clause-plain : goal.returns-in_err-push_bytes-clause-plain
returns-in_err-push_bytes-clause-plain c = let p = err_from_is_err_and c.from_residual.result c.from_residual.ensures.1 in rw p.1 tt

pub returns-in_err-push_bytes-clause-text : goal.returns-in_err-push_bytes-clause-text
returns-in_err-push_bytes-clause-text c = let p = err_from_is_err_and c.from_residual.result c.from_residual.ensures.1 in rw p.1 tt

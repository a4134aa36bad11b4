use Rattle.std.proofs.lemmas.Result.{err_from_is_err_and}
use Rattle.ql_gen.proofs.objects.object_name.Goals as goal

pub returns-in_err-push_bytes-2-clause-name : goal.returns-in_err-push_bytes-2-clause-name
returns-in_err-push_bytes-2-clause-name c = let p = err_from_is_err_and c.from_residual-in_err-push_bytes-2.result c.from_residual-in_err-push_bytes-2.ensures.1 in rw p.1 tt

pub returns-in_err-push_bytes-2-clause-short : goal.returns-in_err-push_bytes-2-clause-short
returns-in_err-push_bytes-2-clause-short c = let p = err_from_is_err_and c.from_residual-in_err-push_bytes-2.result c.from_residual-in_err-push_bytes-2.ensures.1 in rw p.1 tt

pub returns-in_err-push_bytes-2-clause-some : goal.returns-in_err-push_bytes-2-clause-some
returns-in_err-push_bytes-2-clause-some c = let p = err_from_is_err_and c.from_residual-in_err-push_bytes-2.result c.from_residual-in_err-push_bytes-2.ensures.1 in rw p.1 tt

pub returns-in_err-push_bytes-clause-name : goal.returns-in_err-push_bytes-clause-name
returns-in_err-push_bytes-clause-name c = let p = err_from_is_err_and c.from_residual.result c.from_residual.ensures.1 in rw p.1 tt

pub returns-in_err-push_bytes-clause-short : goal.returns-in_err-push_bytes-clause-short
returns-in_err-push_bytes-clause-short c = let p = err_from_is_err_and c.from_residual.result c.from_residual.ensures.1 in rw p.1 tt

pub returns-in_err-push_bytes-clause-some : goal.returns-in_err-push_bytes-clause-some
returns-in_err-push_bytes-clause-some c = let p = err_from_is_err_and c.from_residual.result c.from_residual.ensures.1 in rw p.1 tt

pub returns-in_err-push_number-2-clause-name : goal.returns-in_err-push_number-2-clause-name
returns-in_err-push_number-2-clause-name c = let p = err_from_is_err_and c.from_residual-in_err-push_number-2.result c.from_residual-in_err-push_number-2.ensures.1 in rw p.1 tt

pub returns-in_err-push_number-2-clause-short : goal.returns-in_err-push_number-2-clause-short
returns-in_err-push_number-2-clause-short c = let p = err_from_is_err_and c.from_residual-in_err-push_number-2.result c.from_residual-in_err-push_number-2.ensures.1 in rw p.1 tt

pub returns-in_err-push_number-2-clause-some : goal.returns-in_err-push_number-2-clause-some
returns-in_err-push_number-2-clause-some c = let p = err_from_is_err_and c.from_residual-in_err-push_number-2.result c.from_residual-in_err-push_number-2.ensures.1 in rw p.1 tt

pub returns-in_err-push_number-clause-name : goal.returns-in_err-push_number-clause-name
returns-in_err-push_number-clause-name c = let p = err_from_is_err_and c.from_residual-in_err-push_number.result c.from_residual-in_err-push_number.ensures.1 in rw p.1 tt

pub returns-in_err-push_number-clause-short : goal.returns-in_err-push_number-clause-short
returns-in_err-push_number-clause-short c = let p = err_from_is_err_and c.from_residual-in_err-push_number.result c.from_residual-in_err-push_number.ensures.1 in rw p.1 tt

pub returns-in_err-push_number-clause-some : goal.returns-in_err-push_number-clause-some
returns-in_err-push_number-clause-some c = let p = err_from_is_err_and c.from_residual-in_err-push_number.result c.from_residual-in_err-push_number.ensures.1 in rw p.1 tt

use Rattle.std.proofs.lemmas.Result.{err_from_is_err_and}
use Rattle.ql_typing.proofs.program.ops_of_type_fault.Goals as goal

pub returns-in_err-fields : goal.returns-in_err-fields
returns-in_err-fields c = let p = err_from_is_err_and c.from_residual.result c.from_residual.ensures.1 in rw p.1 tt

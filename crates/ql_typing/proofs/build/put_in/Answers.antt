use Rattle.std.proofs.lemmas.Result.{err_from_is_err_and}
use Rattle.ql_typing.proofs.build.put_in.Goals as goal

pub returns-in_err-number-clause-names : goal.returns-in_err-number-clause-names
returns-in_err-number-clause-names c = let p = err_from_is_err_and c.from_residual.result c.from_residual.ensures.1 in rw p.1 tt

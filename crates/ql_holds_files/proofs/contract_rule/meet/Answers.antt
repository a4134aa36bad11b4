use Rattle.std.proofs.lemmas.Result.{err_from_is_err_and}
use Rattle.ql_holds_files.proofs.contract_rule.meet.Goals as goal

pub returns-in_err-is_new-clause-names : goal.returns-in_err-is_new-clause-names
returns-in_err-is_new-clause-names c = let p = err_from_is_err_and c.from_residual.result c.from_residual.ensures.1 in rw p.1 tt

pub returns-in_err-is_new-clause-twice : goal.returns-in_err-is_new-clause-twice
returns-in_err-is_new-clause-twice c = let p = err_from_is_err_and c.from_residual.result c.from_residual.ensures.1 in rw p.1 tt

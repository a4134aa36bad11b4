use Rattle.std.proofs.lemmas.Result.{err_from_is_err_and}
use Rattle.ql_app.proofs.proof.refusal.Goals as goal

pub returns-in_err-line-in-BadHint : goal.returns-in_err-line-in-BadHint
returns-in_err-line-in-BadHint c = let p = err_from_is_err_and c.from_residual-in_err-line-in-BadHint.result c.from_residual-in_err-line-in-BadHint.ensures.1 in rw p.1 tt

pub returns-in_err-line-in-BadVariable : goal.returns-in_err-line-in-BadVariable
returns-in_err-line-in-BadVariable c = let p = err_from_is_err_and c.from_residual-in_err-line-in-BadVariable.result c.from_residual-in_err-line-in-BadVariable.ensures.1 in rw p.1 tt

pub returns-in_err-line-in-NoConflict : goal.returns-in_err-line-in-NoConflict
returns-in_err-line-in-NoConflict c = let p = err_from_is_err_and c.from_residual-in_err-line-in-NoConflict.result c.from_residual-in_err-line-in-NoConflict.ensures.1 in rw p.1 tt

pub returns-in_err-line-in-NoEmpty : goal.returns-in_err-line-in-NoEmpty
returns-in_err-line-in-NoEmpty c = let p = err_from_is_err_and c.from_residual.result c.from_residual.ensures.1 in rw p.1 tt

pub returns-in_err-line-in-NotUnit : goal.returns-in_err-line-in-NotUnit
returns-in_err-line-in-NotUnit c = let p = err_from_is_err_and c.from_residual-in_err-line-in-NotUnit.result c.from_residual-in_err-line-in-NotUnit.ensures.1 in rw p.1 tt

use Rattle.std.proofs.lemmas.Result.{err_from_is_err_and}
use Rattle.std.proofs.Common.{◌∙◌}
use Rattle.std.proofs.lemmas.List.{take_all}
use Rattle.ql_exec.proofs.copying.copy_values.Goals as goal

pub returns : goal.returns
returns c = c.of.ensures ∙ c.loop-value.invariant ∙ take_all c.loop-value.value-index c.items-value-items.result.now c.loop-value-test.false ∙ c.items-value-items.ensures

pub returns-in_err-copied : goal.returns-in_err-copied
returns-in_err-copied c = let p = err_from_is_err_and c.from_residual.result c.from_residual.ensures.1 in rw p.1 tt

pub returns-in_err-copy : goal.returns-in_err-copy
returns-in_err-copy c = let p = err_from_is_err_and c.from_residual-in_err-copy.result c.from_residual-in_err-copy.ensures.1 in rw p.1 tt

pub returns-in_err-push : goal.returns-in_err-push
returns-in_err-push c = let p = err_from_is_err_and c.from_residual-in_err-push.result c.from_residual-in_err-push.ensures.1 in rw p.1 tt

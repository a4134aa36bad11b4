use Rattle.std.proofs.lemmas.Result.{err_from_is_err_and}
use Rattle.std.proofs.Common.{◌∙◌}
use Rattle.std.proofs.lemmas.List.{take_all}
use Rattle.ql_value.proofs.copying.copy_elements.Goals as goal

pub returns : goal.returns
returns c = c.loop-element.invariant ∙ take_all c.loop-element.element-index c.args.elements.now c.loop-element-test.false

pub returns-in_err-copied : goal.returns-in_err-copied
returns-in_err-copied c = let p = err_from_is_err_and c.from_residual.result c.from_residual.ensures.1 in rw p.1 tt

pub returns-in_err-copy_scalar : goal.returns-in_err-copy_scalar
returns-in_err-copy_scalar c = let p = err_from_is_err_and c.from_residual-in_err-copy_scalar.result c.from_residual-in_err-copy_scalar.ensures.1 in rw p.1 tt

pub returns-in_err-push : goal.returns-in_err-push
returns-in_err-push c = let p = err_from_is_err_and c.from_residual-in_err-push.result c.from_residual-in_err-push.ensures.1 in rw p.1 tt

use Rattle.std.proofs.lemmas.Result.{err_from_is_err_and}
use Rattle.std.proofs.Common.{◌∙◌, ap}
use Rattle.std.proofs.lemmas.List.{take_all}
use Rattle.ql_eval.specs.Folds.{begun}
use Rattle.ql_eval.proofs.folding.begin.Goals as goal

pub returns : goal.returns
returns c = c.loop-field.invariant ∙ ap begun (take_all c.loop-field.field-index c.args.fields.now c.loop-field-test.false)

pub returns-in_err-begin_one : goal.returns-in_err-begin_one
returns-in_err-begin_one c = let p = err_from_is_err_and c.from_residual-in_err-begin_one.result c.from_residual-in_err-begin_one.ensures.1 in rw p.1 tt

pub returns-in_err-push : goal.returns-in_err-push
returns-in_err-push c = let p = err_from_is_err_and c.from_residual-in_err-push.result c.from_residual-in_err-push.ensures.1 in rw p.1 tt

pub returns-in_err-with_capacity : goal.returns-in_err-with_capacity
returns-in_err-with_capacity c = let p = err_from_is_err_and c.from_residual.result c.from_residual.ensures.1 in rw p.1 tt

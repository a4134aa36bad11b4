use Rattle.std.proofs.lemmas.Result.{err_from_is_err_and}
use Rattle.std.proofs.Common.{◌∙◌, ap}
use Rattle.std.proofs.lemmas.List.{take_all}
use Rattle.ql_eval.specs.Folds.{values_in}
use Rattle.ql_eval.proofs.folding.values_of.Goals as goal

pub returns : goal.returns
returns c = c.of.ensures ∙ c.loop-pair.invariant ∙ ap values_in (take_all c.loop-pair.pair-index c.args.pairs.now c.loop-pair-test.false)

pub returns-in_err-copy : goal.returns-in_err-copy
returns-in_err-copy c = let p = err_from_is_err_and c.from_residual-in_err-copy.result c.from_residual-in_err-copy.ensures.1 in rw p.1 tt

pub returns-in_err-push : goal.returns-in_err-push
returns-in_err-push c = let p = err_from_is_err_and c.from_residual-in_err-push.result c.from_residual-in_err-push.ensures.1 in rw p.1 tt

pub returns-in_err-values : goal.returns-in_err-values
returns-in_err-values c = let p = err_from_is_err_and c.from_residual.result c.from_residual.ensures.1 in rw p.1 tt

use Rattle.std.proofs.lemmas.Result.{err_from_is_err_and}
use Rattle.std.proofs.Common.{◌∙◌, ap}
use Rattle.std.proofs.lemmas.List.{take_all}
use Rattle.ql_value.specs.Collections.{united}
use Rattle.ql_value.proofs.sets.union.Goals as goal

pub of-requires : goal.of-requires
of-requires c = c.loop-element.invariant.0

pub returns : goal.returns
returns c =
    c.of.ensures ∙ c.loop-element.invariant.1 ∙ ap (united c.args.first.now) (take_all c.loop-element.element-index c.items-element-items.result.now c.loop-element-test.false ∙ c.items-element-items.ensures.same)

pub returns-in_err-elements : goal.returns-in_err-elements
returns-in_err-elements c = let p = err_from_is_err_and c.from_residual.result c.from_residual.ensures.1 in rw p.1 tt

pub returns-in_err-include : goal.returns-in_err-include
returns-in_err-include c = let p = err_from_is_err_and c.from_residual-in_err-include.result c.from_residual-in_err-include.ensures.1 in rw p.1 tt

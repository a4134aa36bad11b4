use Rattle.std.proofs.lemmas.Result.{err_from_is_err_and}
use Rattle.std.proofs.Common.{◌++◌, ◌∙◌, List, ap, sym}
use Rattle.std.proofs.lemmas.List.{append-nil, nil_from_length}
use Rattle.std.specs.Vec.Iter.{into_iter_items}
use Rattle.ql_schedule.specs.declared.argument.Argument.{Argument}
use Rattle.ql_schedule.specs.Arguments.{argument_values}
use Rattle.ql_schedule.proofs.making.values.Goals as goal

pub returns : goal.returns
returns c =
    let none = nil_from_length (into_iter_items c.loop-arg.arg-iterator) (sym c.loop-arg.invariant.3 ∙ c.in-None.ensures.steps.0) in
    let read = c.loop-arg.invariant.2 ∙ ap (λ (left : List Argument). c.loop-arg.values.items ++ argument_values left) none ∙ append-nil c.loop-arg.values.items in
    c.of.ensures ∙ sym read

pub returns-in_err-push_given : goal.returns-in_err-push_given
returns-in_err-push_given c = let p = err_from_is_err_and c.from_residual-in_err-push_given.result c.from_residual-in_err-push_given.ensures.1 in rw p.1 tt

pub returns-in_err-values : goal.returns-in_err-values
returns-in_err-values c = let p = err_from_is_err_and c.from_residual.result c.from_residual.ensures.1 in rw p.1 tt

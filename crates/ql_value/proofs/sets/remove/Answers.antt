use Rattle.std.proofs.lemmas.Result.{err_from_is_err_and}
use Rattle.std.proofs.Common.{◌≡◌, ◌∙◌, List, ap, take, arith}
use Rattle.std.proofs.lemmas.List.{take_all}
use Rattle.ql_value.specs.declared.scalar.Scalar.{Scalar}
use Rattle.ql_value.specs.Collections.{removed}
use Rattle.ql_value.proofs.Keeping.{set_removed}
use Rattle.ql_value.proofs.sets.remove.Goals as goal

pub of-requires : goal.of-requires
of-requires c =
    let whole : take c.loop-other.other-index c.items-other-items.result.now ≡ c.items-other-items.result.now = take_all c.loop-other.other-index c.items-other-items.result.now (omega arith) in
    rw (c.loop-other.invariant, whole, c.items-other-items.ensures.same) (set_removed c.args.set.now c.args.element.now c.items-other-items.ensures.set)

pub returns : goal.returns
returns c =
    let whole = take_all c.loop-other.other-index c.items-other-items.result.now c.loop-other-test.false in
    c.of.ensures ∙ c.loop-other.invariant ∙ ap (λ (s : List Scalar). removed s c.args.element.now) (whole ∙ c.items-other-items.ensures.same)

pub returns-in_err-copy_scalar : goal.returns-in_err-copy_scalar
returns-in_err-copy_scalar c = let p = err_from_is_err_and c.from_residual-in_err-copy_scalar.result c.from_residual-in_err-copy_scalar.ensures.1 in rw p.1 tt

pub returns-in_err-elements : goal.returns-in_err-elements
returns-in_err-elements c = let p = err_from_is_err_and c.from_residual.result c.from_residual.ensures.1 in rw p.1 tt

pub returns-in_err-push : goal.returns-in_err-push
returns-in_err-push c = let p = err_from_is_err_and c.from_residual-in_err-push.result c.from_residual-in_err-push.ensures.1 in rw p.1 tt

use Rattle.std.proofs.lemmas.Result.{err_from_is_err_and}
use Rattle.std.proofs.Common.{◌≡◌, ◌∙◌, List, ap, take, arith}
use Rattle.std.proofs.lemmas.List.{take_all}
use Rattle.ql_value.specs.declared.scalar.Scalar.{Scalar}
use Rattle.ql_value.specs.Collections.{dropped}
use Rattle.ql_value.proofs.Keeping.{map_dropped}
use Rattle.ql_value.proofs.maps.drop_key.Goals as goal

pub of-requires : goal.of-requires
of-requires c =
    let whole : take c.loop-entry.entry-index c.items-entry-items.result.now ≡ c.items-entry-items.result.now = take_all c.loop-entry.entry-index c.items-entry-items.result.now (omega arith) in
    rw (c.loop-entry.invariant, whole, c.items-entry-items.ensures.same) (map_dropped c.args.map.now c.args.key.now c.items-entry-items.ensures.map)

pub returns : goal.returns
returns c =
    let whole = take_all c.loop-entry.entry-index c.items-entry-items.result.now c.loop-entry-test.false in
    c.of.ensures ∙ c.loop-entry.invariant ∙ ap (λ (m : List (Scalar × Scalar)). dropped m c.args.key.now) (whole ∙ c.items-entry-items.ensures.same)

pub returns-in_err-copy_scalar : goal.returns-in_err-copy_scalar
returns-in_err-copy_scalar c = let p = err_from_is_err_and c.from_residual-in_err-copy_scalar.result c.from_residual-in_err-copy_scalar.ensures.1 in rw p.1 tt

pub returns-in_err-copy_scalar-2 : goal.returns-in_err-copy_scalar-2
returns-in_err-copy_scalar-2 c = let p = err_from_is_err_and c.from_residual-in_err-copy_scalar-2.result c.from_residual-in_err-copy_scalar-2.ensures.1 in rw p.1 tt

pub returns-in_err-entries : goal.returns-in_err-entries
returns-in_err-entries c = let p = err_from_is_err_and c.from_residual.result c.from_residual.ensures.1 in rw p.1 tt

pub returns-in_err-push : goal.returns-in_err-push
returns-in_err-push c = let p = err_from_is_err_and c.from_residual-in_err-push.result c.from_residual-in_err-push.ensures.1 in rw p.1 tt

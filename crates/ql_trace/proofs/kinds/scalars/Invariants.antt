use Rattle.std.proofs.Common.{◌≡◌, take, Some}
use Rattle.serde_json.specs.View.{view}
use Rattle.ql_trace.specs.Kinds.{as_scalar, each_as}
use Rattle.ql_trace.proofs.kinds.scalars.Given as goal

abbrev pub invariant-loop-item : goal.invariant-loop-item
invariant-loop-item l = each_as (λ j. as_scalar l.base (view j)) (take l.item-index l.items) ≡ Some l.elements.items

use Rattle.std.proofs.Common.{◌≡◌, take, Some}
use Rattle.serde_json.specs.View.{view}
use Rattle.ql_trace.specs.Kinds.{as_entry, each_as}
use Rattle.ql_trace.proofs.kinds.entries.Given as goal

abbrev pub invariant-loop-item : goal.invariant-loop-item
invariant-loop-item l = each_as (λ j. as_entry l.key l.value (view j)) (take l.item-index l.items) ≡ Some l.entries.items

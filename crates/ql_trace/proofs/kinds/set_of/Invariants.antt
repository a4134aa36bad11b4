use Rattle.std.proofs.Common.{◌≡◌, ◌≤◌, ◌+◌, [], length}
use Rattle.std.specs.Vec.Iter.{into_iter_items, into_iter_len}
use Rattle.ql_value.specs.Collections.{Ascends}
use Rattle.ql_value.specs.Order.{scalar_cmp}
use Rattle.ql_trace.specs.Kinds.{all_among}
use Rattle.ql_trace.proofs.kinds.set_of.Given as goal

abbrev pub invariant-loop-element : goal.invariant-loop-element
invariant-loop-element l =
    (goal.iterator-loop-element).can_next l.element-iterator × (goal.iterator-loop-element).is_finite l.element-iterator
    × (all_among scalar_cmp [] l.fn.elements.items ≡ all_among scalar_cmp l.found.items (into_iter_items l.element-iterator))
    × (length l.found.items + length (into_iter_items l.element-iterator) ≤ length l.fn.elements.items)
    × (into_iter_len l.element-iterator ≡ length (into_iter_items l.element-iterator))
    × Ascends scalar_cmp l.found.items

use Rattle.std.proofs.Common.{◌≡◌, ◌≤◌, ◌+◌, [], length}
use Rattle.std.specs.Vec.Iter.{into_iter_items, into_iter_len}
use Rattle.ql_value.specs.Collections.{Ascends}
use Rattle.ql_value.specs.Order.{key_cmp}
use Rattle.ql_trace.specs.Kinds.{all_among}
use Rattle.ql_trace.proofs.kinds.map_of.Given as goal

abbrev pub invariant-loop-entry : goal.invariant-loop-entry
invariant-loop-entry l =
    (goal.iterator-loop-entry).can_next l.entry-iterator × (goal.iterator-loop-entry).is_finite l.entry-iterator
    × (all_among key_cmp [] l.fn.entries.items ≡ all_among key_cmp l.found.items (into_iter_items l.entry-iterator))
    × (length l.found.items + length (into_iter_items l.entry-iterator) ≤ length l.fn.entries.items)
    × (into_iter_len l.entry-iterator ≡ length (into_iter_items l.entry-iterator))
    × Ascends key_cmp l.found.items

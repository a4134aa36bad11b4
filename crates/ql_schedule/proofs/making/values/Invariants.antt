use Rattle.std.proofs.Common.{◌≡◌, ◌++◌, length}
use Rattle.std.specs.Vec.Iter.{into_iter_items, into_iter_len}
use Rattle.ql_schedule.specs.Arguments.{argument_values}
use Rattle.ql_schedule.proofs.making.values.Given as goal

abbrev pub invariant-loop-arg : goal.invariant-loop-arg
invariant-loop-arg l =
    (goal.iterator-loop-arg).can_next l.arg-iterator × (goal.iterator-loop-arg).is_finite l.arg-iterator
    × (argument_values l.fn.args ≡ l.values.items ++ argument_values (into_iter_items l.arg-iterator))
    × (into_iter_len l.arg-iterator ≡ length (into_iter_items l.arg-iterator))

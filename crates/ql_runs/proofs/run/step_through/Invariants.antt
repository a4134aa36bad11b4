use Rattle.std.proofs.Common.{◌≡◌, length}
use Rattle.std.specs.Vec.Iter.{into_iter_items, into_iter_len}
use Rattle.ql_runs.proofs.Going.{IsGoing}
use Rattle.ql_runs.proofs.run.step_through.Given as goal

abbrev pub invariant-loop-event : goal.invariant-loop-event
invariant-loop-event g l =
    (goal.iterator-loop-event g).can_next l.event-iterator × (goal.iterator-loop-event g).is_finite l.event-iterator
    × IsGoing l.fn.typed.program l.fn.store.levels l.fn.schedule (into_iter_items l.event-iterator) l.replies.items l.store.levels l.store.machine
    × (into_iter_len l.event-iterator ≡ length (into_iter_items l.event-iterator))

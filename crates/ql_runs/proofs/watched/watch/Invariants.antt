use Rattle.std.proofs.Common.{◌≡◌, length}
use Rattle.std.specs.Vec.Iter.{into_iter_items, into_iter_len}
use Rattle.ql_runs.proofs.WatchLaws.{IsWatching}
use Rattle.ql_runs.proofs.watched.watch.Given as goal

abbrev pub invariant-loop-event : goal.invariant-loop-event
invariant-loop-event g l =
    (goal.iterator-loop-event g).can_next l.event-iterator × (goal.iterator-loop-event g).is_finite l.event-iterator
    × IsWatching l.fn.typed.program l.fn.store.levels l.fn.schedule l.fn.replica.0 (into_iter_items l.event-iterator) l.store.levels l.store.machine l.arrivals.items l.received
    × (into_iter_len l.event-iterator ≡ length (into_iter_items l.event-iterator))

use Rattle.std.proofs.Common.{◌≤◌, length}
use Rattle.ql_ranges.specs.Ranges.{ids_of}
use Rattle.ql_session.specs.Walks.{GoesDown}
use Rattle.ql_session.proofs.past.visit_all.Given as goal

abbrev pub invariant-loop-left : goal.invariant-loop-left
invariant-loop-left l = record {
  inside : l.left ≤ length l.x;
  down : GoesDown l.x (length l.x) (ids_of l.initial.walk.met) (ids_of l.initial.walk.sessions) l.left (ids_of l.walk.met) (ids_of l.walk.sessions);
}

abbrev pub decreases-loop-left : goal.decreases-loop-left
decreases-loop-left l = l.left

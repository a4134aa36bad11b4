use Rattle.std.proofs.Common.{◌≤◌, drop, length}
use Rattle.ql_sat.specs.Trail.{NoneSeen}
use Rattle.ql_sat.proofs.learning.last_seen.Given as goal

abbrev pub invariant-loop-place : goal.invariant-loop-place
invariant-loop-place l = record {
  within : l.place ≤ length l.steps;
  none : NoneSeen l.seen (drop l.place l.steps);
}

abbrev pub decreases-loop-place : goal.decreases-loop-place
decreases-loop-place l = l.place

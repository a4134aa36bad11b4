use Rattle.std.proofs.Common.{◌≡◌, ◌≤◌, ◌+◌, length}
use Rattle.ql_sat.specs.State.{IsAnalyzed}
use Rattle.ql_sat.proofs.learning.analyze.Given as goal

abbrev pub invariant-loop-place : goal.invariant-loop-place
invariant-loop-place l = record {
  within : l.place ≤ length l.trail.steps.items;
  analyzed : IsAnalyzed l.known l.trail l.place l.analysis;
  seen : length l.analysis.seen.items ≡ l.known.given.now.variables + 1;
}

abbrev pub decreases-loop-place : goal.decreases-loop-place
decreases-loop-place l = l.place

use Rattle.std.proofs.Common.{◌≡◌, ◌<◌, ◌≤◌, ℕ, true}
use Rattle.ql_exec.specs.Relations.{so, soo}
use Rattle.ql_ranges.proofs.neighbours.last_on_object.Given as goal

abbrev pub invariant-loop-k : goal.invariant-loop-k
invariant-loop-k l = record {
  below : l.k < l.e;
  own : 1 ≤ l.k → so l.effects l.k l.e ≡ true;
  last : (a : ℕ) → soo l.effects a l.e ≡ true → l.stop < a → a ≤ l.k;
}

abbrev pub decreases-loop-k : goal.decreases-loop-k
decreases-loop-k l = l.k

use Rattle.std.proofs.Common.{◌≡◌, ◌<◌, ◌≤◌, ◌-◌, ℕ, true, length}
use Rattle.ql_exec.specs.Relations.{so}
use Rattle.ql_ranges.proofs.neighbours.next_in_session.Given as goal

abbrev pub invariant-loop-k : goal.invariant-loop-k
invariant-loop-k l = record {
  behind : l.e ≤ l.k;
  inside : l.k ≤ length l.effects;
  next : (a : ℕ) → so l.effects l.e a ≡ true → l.k < a;
}

abbrev pub decreases-loop-k : goal.decreases-loop-k
decreases-loop-k l = length l.effects - l.k

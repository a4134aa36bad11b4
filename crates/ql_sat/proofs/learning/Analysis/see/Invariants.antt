use Rattle.std.proofs.Common.{◌≡◌, ◌||◌, ℕ, length, take}
use Rattle.ql_refute.specs.Marks.{has_variable}
use Rattle.ql_sat.specs.Trail.{is_seen}
use Rattle.ql_sat.proofs.learning.Analysis.see.Given as goal

abbrev pub invariant-loop-lit : goal.invariant-loop-lit
invariant-loop-lit l = record {
  seen : (v : ℕ) → is_seen l.self.seen.items v ≡ (has_variable (take l.lit-index l.clause) v || is_seen l.fn.self.seen.items v);
  hints : l.self.hints ≡ l.fn.self.hints;
  len : length l.self.seen.items ≡ length l.fn.self.seen.items;
}

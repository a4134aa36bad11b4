use Rattle.std.proofs.Common.{◌≡◌, ◌≤◌, ◌&&◌, ℕ, true}
use Rattle.ql_machine.specs.Sets.{AreThose}
use Rattle.ql_slimming.specs.Stability.{comes_earlier, is_on}
use Rattle.ql_slimming.proofs.stability.stable_on.Given as goal

abbrev pub invariant-loop-k : goal.invariant-loop-k
invariant-loop-k l = AreThose (λ (a : ℕ). (1 ≤ a) × (a ≤ l.k) × ((is_on l.x l.object a && comes_earlier l.x a l.first) ≡ true)) l.ids

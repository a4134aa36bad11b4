use Rattle.std.proofs.Common.{◌≡◌, ◌≤◌, ℕ, true}
use Rattle.ql_machine.specs.Sets.{AreThose}
use Rattle.ql_slimming.specs.Ready.{is_kept_at}
use Rattle.ql_slimming.proofs.keeping.kept_effects.Given as goal

abbrev pub invariant-loop-k : goal.invariant-loop-k
invariant-loop-k l = AreThose (λ (a : ℕ). (1 ≤ a) × (a ≤ l.k) × (is_kept_at l.x l.kept a ≡ true)) l.ids

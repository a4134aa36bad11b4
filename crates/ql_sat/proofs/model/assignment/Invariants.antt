use Rattle.std.proofs.Common.{◌≡◌, ◌<◌, ◌+◌, ℕ, length, get_or, false}
use Rattle.std.specs.Prelude.{◌==◌}
use Rattle.ql_sat.proofs.model.assignment.Given as goal

abbrev pub invariant-loop-mark : goal.invariant-loop-mark
invariant-loop-mark l = record {
  count : length l.values.items ≡ l.mark-index;
  same : (k : ℕ) → k < l.mark-index → get_or l.values.items k false ≡ (get_or l.marks (k + 1) 0 == 1);
}

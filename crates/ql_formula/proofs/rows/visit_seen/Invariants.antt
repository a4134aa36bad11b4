use Rattle.std.proofs.Common.{◌≡◌, ◌≤◌, ℕ, Bool, suc, true, false, length, get_or, drop}
use Rattle.ql_base.specs.IdLists.{has_id}
use Rattle.ql_exec.specs.Relations.{leads}
use Rattle.ql_formula.specs.Tables.{AreRows, GoesForward, IsClosedPart}
use Rattle.ql_formula.proofs.rows.visit_seen.Given as goal

abbrev pub invariant-loop-left : goal.invariant-loop-left
invariant-loop-left l =
    (l.left ≤ length l.seen)
    × (length l.row ≡ length l.fn.row)
    × ((k : ℕ) → get_or l.fn.row k false ≡ true → get_or l.row k false ≡ true)
    × ((k : ℕ) → has_id (drop l.left l.seen) (suc k) ≡ true → get_or l.row k false ≡ true)
    × ((step : ℕ → ℕ → Bool) → GoesForward step → AreRows (leads step) l.rows
    → ((a : ℕ) → has_id l.seen a ≡ true → step a (suc (length l.fn.row)) ≡ true)
    → IsClosedPart step l.fn.row → IsClosedPart step l.row)

abbrev pub decreases-loop-left : goal.decreases-loop-left
decreases-loop-left l = l.left

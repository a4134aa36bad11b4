use Rattle.std.proofs.Common.{◌≡◌, ◌||◌, ℕ, suc, false, length, take, get_or}
use Rattle.ql_base.specs.IdLists.{has_id}
use Rattle.ql_formula.proofs.rows.mark.Given as goal

abbrev pub invariant-loop-id : goal.invariant-loop-id
invariant-loop-id l =
    (length l.row ≡ length l.initial.row)
    × ((k : ℕ) → get_or l.row k false ≡ (get_or l.initial.row k false || has_id (take l.id-index l.ids) (suc k)))

-- An id that belongs between two of an ascending list isn't in it.
use Rattle.std.proofs.Common.{◌≡◌, ℕ, ◌-◌, ◌<◌, ◌≤◌, List, false, length, get_or, inl, inr, arith}
use Rattle.std.proofs.lemmas.Bool.{cases_lt}
use Rattle.ql_base.specs.IdLists.{IsAscending, has_id}
use Rattle.ql_base.proofs.IdLemmas.{get_or-rises, has_id-absent}

pub absent-between : (ids : List ℕ) (at id : ℕ) → IsAscending ids → at ≤ length ids → (0 < at → get_or ids (at - 1) 0 < id) → (at < length ids → id < get_or ids at 0) → has_id ids id ≡ false
absent-between ids at id ascending within after before = has_id-absent ids id (λ k inside same. elim (cases_lt k at) [
  | inl less ↦ (let rise = get_or-rises ids k (at - 1) ascending (omega (arith, less)) (omega (arith, less, within)) in let above = after (omega (arith, less)) in omega (arith, rise, above, same))
  | inr more ↦ (let rise = get_or-rises ids at k ascending more inside in let below = before (omega (arith, more, inside)) in omega (arith, rise, below, same))
])

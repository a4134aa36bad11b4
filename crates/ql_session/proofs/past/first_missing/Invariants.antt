use Rattle.std.proofs.Common.{◌≡◌, ℕ, false, take}
use Rattle.ql_base.specs.IdLists.{has_id}
use Rattle.ql_holder.specs.Closed.{Has}
use Rattle.ql_ranges.specs.Ranges.{ids_of}
use Rattle.ql_session.proofs.past.first_missing.Given as goal

abbrev pub invariant-loop-id : goal.invariant-loop-id
invariant-loop-id l = (a : ℕ) → Has (take l.id-index l.ids) a → Has (ids_of l.past) a → has_id l.view a ≡ false → ⊥

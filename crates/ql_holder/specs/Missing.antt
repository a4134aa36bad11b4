-- The first of some ids that a set lacks.
use Rattle.std.specs.Prelude.{◌≡◌, ◌<◌, ℕ, false, List, Option, Some, None}
use Rattle.ql_base.specs.IdLists.{has_id}
use Rattle.ql_holder.specs.Closed.{Has}

abbrev pub IsFirstMissing : List ℕ → List ℕ → Option ℕ → Type 0
IsFirstMissing ids set None = (a : ℕ) → Has ids a → Has set a
IsFirstMissing ids set (Some id) = Has ids id × (has_id set id ≡ false) × ((a : ℕ) → Has ids a → a < id → Has set a)

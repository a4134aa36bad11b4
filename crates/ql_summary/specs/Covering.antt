-- When a fold can continue from a kept state: what is kept is seen, and comes before all else that is seen.
use Rattle.std.specs.Prelude.{ℕ, ◌≡◌, true, false, if◌then◌else◌, List, [], Option, Some, None}
use Rattle.ql_base.specs.IdLists.{has_id}
use Rattle.ql_exec.specs.declared.effect.Effect.{Effect}
use Rattle.ql_base.specs.declared.ids.EffId.{EffId}
use Rattle.ql_exec.specs.Effects.{both, effect_at}
use Rattle.ql_exec.specs.Folding.{comes_before}

-- each other effect comes after these in order of stamp and session
abbrev pub ComeLater : List Effect → List ℕ → List ℕ → Type 0
ComeLater x ids others =
    (a b : ℕ) (e f : Effect) → has_id ids a ≡ true → has_id others b ≡ true → has_id ids b ≡ false → effect_at x a ≡ Some e → effect_at x b ≡ Some f → comes_before e f ≡ true

-- some effects are among those that are seen, and all others of these come after them
pub record Covers (x : List Effect) (ids seen : List ℕ) : Type 0 where
  pub all : (a : ℕ) → has_id ids a ≡ true → has_id seen a ≡ true
  pub later : ComeLater x ids seen

-- ---- the effect that comes last

-- one of some effects, such that it comes before none of them, if there are any
abbrev pub IsLast : List Effect → List ℕ → Option EffId → Type 0
IsLast x ids None = ids ≡ []
IsLast x ids (Some last) =
    (has_id ids last.0 ≡ true) × ((a : ℕ) → has_id ids a ≡ true → both comes_before (effect_at x last.0) (effect_at x a) ≡ false)

-- the later of two effects, or the only one
abbrev pub later_of : List Effect → Option EffId → EffId → EffId
later_of x None next = next
later_of x (Some last) next = if both comes_before (effect_at x last.0) (effect_at x next.0) then next else last

-- The effect before each one in its session.
use Rattle.std.specs.Prelude.{◌≡◌, ℕ, suc, ◌<◌, ◌≤◌, true, List, length, slice_index}
use Rattle.ql_exec.specs.declared.effect.Effect.{Effect}
use Rattle.ql_exec.specs.Relations.{so}

-- the id of the last effect before one in its session, 0 if there is none
abbrev pub IsLink : List Effect → ℕ → ℕ → Type 0
IsLink x e before = (1 ≤ before → so x before e ≡ true) × ((a : ℕ) → so x a e ≡ true → a ≤ before)

-- a table has that id for each effect
abbrev pub HasLinks : List ℕ → List Effect → Type 0
HasLinks links x = (length links ≡ length x) × ((k : ℕ) → k < length x → IsLink x (suc k) (slice_index links k))

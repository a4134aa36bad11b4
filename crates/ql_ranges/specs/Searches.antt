-- The neighbours of an effect: in its session on its object, in its session, and in its transaction.
use Rattle.std.specs.Prelude.{◌≡◌, ℕ, ◌<◌, ◌≤◌, Bool, true, false, List, Option, Some, None}
use Rattle.ql_exec.specs.declared.effect.Effect.{Effect}
use Rattle.ql_exec.specs.Effects.{effect_at, both}
use Rattle.ql_exec.specs.Relations.{so, soo, sametxn, same_run}

-- the last effect before one in its session on its object, or none if all such are up to `stop`
abbrev pub IsLastOnObject : List Effect → ℕ → ℕ → Option ℕ → Type 0
IsLastOnObject x e stop None = (a : ℕ) → soo x a e ≡ true → a ≤ stop
IsLastOnObject x e stop (Some p) = (soo x p e ≡ true) × ((a : ℕ) → soo x a e ≡ true → a ≤ p)

-- the last effect before one in its session
abbrev pub IsLastInSession : List Effect → ℕ → Option ℕ → Type 0
IsLastInSession x e None = (a : ℕ) → so x a e ≡ true → ⊥
IsLastInSession x e (Some p) = (so x p e ≡ true) × ((a : ℕ) → so x a e ≡ true → a ≤ p)

-- the first effect after one in its session
abbrev pub IsNextInSession : List Effect → ℕ → Option ℕ → Type 0
IsNextInSession x e None = (a : ℕ) → so x e a ≡ true → ⊥
IsNextInSession x e (Some p) = (so x e p ≡ true) × ((a : ℕ) → so x e a ≡ true → p ≤ a)

-- the last effect before one in its transaction
abbrev pub IsMemberBelow : List Effect → ℕ → Option ℕ → Type 0
IsMemberBelow x e None = (a : ℕ) → a < e → sametxn x e a ≡ true → ⊥
IsMemberBelow x e (Some p) = (p < e) × (sametxn x e p ≡ true) × ((a : ℕ) → a < e → sametxn x e a ≡ true → a ≤ p)

-- the first effect after one in its transaction
abbrev pub IsMemberAbove : List Effect → ℕ → Option ℕ → Type 0
IsMemberAbove x e None = (a : ℕ) → e < a → sametxn x e a ≡ true → ⊥
IsMemberAbove x e (Some p) = (e < p) × (sametxn x e p ≡ true) × ((a : ℕ) → e < a → sametxn x e a ≡ true → p ≤ a)

-- in no transaction, if the result is true
abbrev pub IsAlone : List Effect → ℕ → Bool → Type 0
IsAlone x e true = (a : ℕ) → both (λ f g. same_run f.member g.member) (effect_at x e) (effect_at x a) ≡ false
IsAlone x e false = Unit {0}

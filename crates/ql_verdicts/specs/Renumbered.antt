-- Executions that differ only in the numbers of their objects.
use Rattle.std.specs.Prelude.{◌≡◌, ℕ, List, Some, map}
use Rattle.ql_exec.specs.declared.effect.Effect.{Effect}
use Rattle.ql_exec.specs.Effects.{effect_at}

-- an effect with another number for its object
abbrev pub renumbered : (ℕ → ℕ) → Effect → Effect
renumbered number e = record e { object = record { 0 = number e.object.0 } }

-- y is x, with other numbers of objects: no two objects of x have one number in y
pub record IsRenumbered (x y : List Effect) : Type 0 where
  pub number : ℕ → ℕ
  pub apart : (a b : ℕ) (e g : Effect) → effect_at x a ≡ Some e → effect_at x b ≡ Some g → number e.object.0 ≡ number g.object.0 → e.object.0 ≡ g.object.0
  pub is : y ≡ map (renumbered number) x

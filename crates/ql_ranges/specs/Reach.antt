-- What a walk through needs finds.
use Rattle.std.specs.Prelude.{◌⊎◌, ℕ, List}
use Rattle.ql_exec.specs.declared.effect.Effect.{Effect}
use Rattle.ql_holder.specs.Closed.{Has}
use Rattle.ql_holder.specs.Needs.{AreThere, Needs, IsNeeded}

-- an id is in one list or the other
abbrev pub InEither : List ℕ → List ℕ → ℕ → Type 0
InEither ids others a = Has ids a ⊎ Has others a

-- all that some effects need, themselves included, except for what is needed through known ones only
pub record IsReach (x : List Effect) (asked known found : List ℕ) : Type 0 where
  pub there : AreThere x found
  pub begins : (a : ℕ) → Has asked a → InEither known found a
  pub needed : (a : ℕ) → Has found a → IsNeeded x asked a
  pub whole : (a b : ℕ) → Has found a → Needs x a b → InEither known found b

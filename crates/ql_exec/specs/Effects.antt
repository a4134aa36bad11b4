-- Effects by their ids, of a session, and in a transaction.
use Rattle.std.specs.Prelude.{ℕ, zero, suc, Bool, false, nat_eq, slice_get, List, [], ◌∷◌, Option, Some, None}
use Rattle.std.specs.List.{filter}
use Rattle.ql_base.specs.declared.ids.SessId.{SessId}
use Rattle.ql_exec.specs.declared.effect.Effect.{Effect}
use Rattle.ql_exec.specs.declared.effect.Member.{Member}
use Rattle.ql_exec.specs.declared.effect.Member.TheVariants.{Alone, Inside}

-- the effect with an id, counted from 1
abbrev pub effect_at : List Effect → ℕ → Option Effect
effect_at effects zero = None
effect_at effects (suc k) = slice_get effects k

-- an effect is there and passes the test
abbrev pub one : (Effect → Bool) → Option Effect → Bool
one test None = false
one test (Some e) = test e

-- two effects are there and related
abbrev pub both : (Effect → Effect → Bool) → Option Effect → Option Effect → Bool
both related None b = false
both related (Some a) None = false
both related (Some a) (Some b) = related a b

-- a membership is that of one begun transaction
abbrev pub in_run : ℕ → Member → Bool
in_run run Alone = false
in_run run (Inside other name) = nat_eq other.0 run

-- the effects of a session, in order
abbrev pub of_session : List Effect → SessId → List Effect
of_session effects session = filter (λ e. nat_eq e.session.0 session.0) effects

-- the last effect of a list
abbrev pub last : List Effect → Option Effect
last [] = None
last (e ∷ []) = Some e
last (e ∷ f ∷ effects) = last (f ∷ effects)

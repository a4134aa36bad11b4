-- The seen effects in the order in which they are folded: by their stamps, and at one stamp by their sessions.
use Rattle.std.specs.Prelude.{ℕ, Bool, ◌&&◌, ◌||◌, nat_eq, nat_lt, if◌then◌else◌, List, [], ◌∷◌, IsTrue}
use Rattle.std.specs.List.{filter_map}
use Rattle.ql_base.specs.IdLists.{has_id}
use Rattle.ql_base.specs.declared.ids.ObjId.{ObjId}
use Rattle.ql_exec.specs.declared.effect.Effect.{Effect}
use Rattle.ql_exec.specs.Effects.{effect_at}
use Rattle.ql_exec.specs.Execution.{IsOn}

-- a lower stamp, or the same and a lower session
abbrev pub comes_before : Effect → Effect → Bool
comes_before e f = nat_lt e.stamp f.stamp || (nat_eq e.stamp f.stamp && nat_lt e.session.0 f.session.0)

-- an effect inserted among others that are in order
abbrev pub with_effect : Effect → List Effect → List Effect
with_effect e [] = e ∷ []
with_effect e (f ∷ effects) = if comes_before e f then e ∷ f ∷ effects else f ∷ with_effect e effects

-- the effects in order
abbrev pub in_order : List Effect → List Effect
in_order [] = []
in_order (e ∷ effects) = with_effect e (in_order effects)

-- the effects of some ids, in order of stamp and session
abbrev pub seen_in_order : List Effect → List ℕ → List Effect
seen_in_order x seen = in_order (filter_map (effect_at x) seen)

-- all of these ids are effects on one object
abbrev pub AreOnOneObject : List Effect → List ℕ → Type 0
AreOnOneObject x seen = (object : ObjId) × ((a : ℕ) → IsTrue (has_id seen a) → IsOn object (effect_at x a))

-- What a view lacks of a call's past, on the called object.
use Rattle.std.specs.Prelude.{◌≡◌, ℕ, false, List, Option, Some, None}
use Rattle.ql_base.specs.IdLists.{has_id}
use Rattle.ql_base.specs.declared.ids.EffId.{EffId}
use Rattle.ql_base.specs.declared.ids.ObjId.{ObjId}
use Rattle.ql_base.specs.declared.ids.SessId.{SessId}
use Rattle.ql_exec.specs.declared.effect.Effect.{Effect}
use Rattle.ql_exec.specs.Effects.{effect_at}
use Rattle.ql_exec.specs.Execution.{IsOn}
use Rattle.ql_holder.specs.Closed.{Has}
use Rattle.ql_machine.specs.Blocking.{InPast}
use Rattle.ql_machine.specs.Sets.{IsLeast}

-- an effect on the object that is in the past and that the view lacks
abbrev pub IsMissingPast : List Effect → SessId → ObjId → List ℕ → ℕ → Type 0
IsMissingPast x session object view a =
    IsOn object (effect_at x a) × InPast x session (Has view) a × (has_id view a ≡ false)

-- the least of which something holds, or none
abbrev pub IsLeastOf : (ℕ → Type 0) → Option EffId → Type 0
IsLeastOf holds None = (a : ℕ) → holds a → ⊥
IsLeastOf holds (Some least) = IsLeast holds least.0

-- The slim form of an execution: what is kept has lost its arguments, its payload and its answer.
use Rattle.std.specs.Prelude.{ℕ, suc, List, [], ◌∷◌, if◌then◌else◌}
use Rattle.ql_value.specs.declared.value.Value.TheVariants.{Unit as UnitValue}
use Rattle.ql_exec.specs.declared.effect.Effect.{Effect}
use Rattle.ql_exec.specs.declared.effect.Payload.TheVariants.{Nothing}
use Rattle.ql_summary.specs.declared.kept.KeptObject.{KeptObject}
use Rattle.ql_summary.specs.Keeping.{is_kept}

-- an effect without contents
abbrev pub bare : Effect → Effect
bare e = record e { args = []; payload = Nothing; answer = UnitValue }

-- the effect with an id, without its contents if it is kept
abbrev pub slim_effect : List KeptObject → ℕ → Effect → Effect
slim_effect kept id e = if is_kept kept id then bare e else e

-- effects numbered from an id on
abbrev pub slim_from : List KeptObject → ℕ → List Effect → List Effect
slim_from kept id [] = []
slim_from kept id (e ∷ effects) = slim_effect kept id e ∷ slim_from kept (suc id) effects

abbrev pub slim_of : List KeptObject → List Effect → List Effect
slim_of kept x = slim_from kept 1 x

-- The effects with which a bare replica joins.
use Rattle.std.specs.Prelude.{◌≡◌, ℕ, Bool, true, false, List, Some}
use Rattle.ql_base.specs.declared.ids.OpId.{OpId}
use Rattle.ql_exec.specs.declared.effect.Effect.{Effect}
use Rattle.ql_exec.specs.declared.effect.Member.TheVariants.{Alone}
use Rattle.ql_exec.specs.Effects.{effect_at}
use Rattle.ql_levels.specs.declared.level.Level.{Level}
use Rattle.ql_levels.specs.declared.level.Level.TheVariants.{Strong}
use Rattle.ql_machine.specs.Steps.{IsOfStrong}
use Rattle.ql_holder.specs.Closed.{Reaches}
use Rattle.ql_holder.specs.Needs.{Needs}

abbrev pub is_strong : Level → Bool
is_strong Strong = true
is_strong _ = false

-- effects of strong operations are in no transaction
abbrev pub AreAlone : (OpId → Level) → List Effect → Type 0
AreAlone level x = (a : ℕ) (e : Effect) → effect_at x a ≡ Some e → level e.op ≡ Strong → e.member ≡ Alone

-- a strong effect, or one that a strong effect needs, directly or through others, every transaction taken as committed
abbrev pub IsNeededByStrong : (OpId → Level) → List Effect → ℕ → Type 0
IsNeededByStrong level x b = (a : ℕ) × IsOfStrong level x a × Reaches (Needs x) a b

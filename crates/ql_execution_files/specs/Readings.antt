-- What effects say in a program: an execution, if they keep the rules beyond the grammar.
use Rattle.std.specs.Prelude.{◌≡◌, ℕ, ◌≤◌, List, [], map, length, Option, Some, option_map}
use Rattle.std.specs.List.{AllByRecursion, AllZip, fold}
use Rattle.ql_base.specs.Numbering.{with_name}
use Rattle.ql_lang.specs.declared.program.Program.{Program}
use Rattle.ql_typing.specs.Resolved.{number_in}
use Rattle.ql_exec.specs.declared.effect.Effect.{Effect}
use Rattle.ql_exec.specs.Execution.{IsExecution, with_stamp}
use Rattle.ql_effect_lines.specs.declared.effect_line.EffectLine.{EffectLine}
use Rattle.ql_effect_lines.specs.declared.effects_read.EffectsRead.{EffectsRead}
use Rattle.ql_effect_lines.specs.Effects.{draft_of_line, known_of, most_effects, type_number_of}

-- the names of the effects' objects, in the order of their first occurrence
abbrev pub objects_in : List EffectLine → List (List ℕ)
objects_in es = fold with_name [] (map (λ (e : EffectLine). e.object) es)

-- what an effect says among these names of objects, if the program has its operation and its transaction
abbrev pub effect_said : Program → List (List ℕ) → EffectLine → Option Effect
effect_said p objects e =
    option_map (λ known. with_stamp (draft_of_line e (record { 0 = number_in objects e.object }) known.0 known.1) e.setting.stamp) (known_of p e)

-- effects on one object are of operations of one type
abbrev pub AreOfOneType : Program → List Effect → Type 0
AreOfOneType p x = AllByRecursion (λ e. AllByRecursion (λ f. e.object ≡ f.object → type_number_of p e.op ≡ type_number_of p f.op) x) x

-- The effects say this execution. Its stamps are theirs, and objects are numbered by their first occurrence.
pub record SaysExecution (p : Program) (effects : List EffectLine) (x : List Effect) : Type 0 where
  pub said : AllZip (λ e f. effect_said p (objects_in effects) e ≡ Some f) effects x
  pub execution : IsExecution x
  pub one_type : AreOfOneType p x
  pub few : length x ≤ most_effects

-- the execution that effects say, with the names of its objects
abbrev pub read_as : List EffectLine → List Effect → EffectsRead
read_as effects x = record { objects = objects_in effects; effects = x }

-- The grammar of execution files: the lines of a file are those of effects.
use Rattle.std.specs.Prelude.{◌≡◌, ℕ, suc, List, [], ◌∷◌, ◌++◌}
use Rattle.std.specs.List.{AllByRecursion}
use Rattle.ql_lines.specs.Fields.{fields_of}
use Rattle.ql_effect_lines.specs.declared.effect_line.EffectLine.{EffectLine}
use Rattle.ql_effect_lines.specs.EffectLine.{IsEffectLine}
use Rattle.ql_execution_files.specs.ExecutionFile.{end_fields, first_fields}

-- the lines of effects, where the first has the number n
abbrev pub AreEffectLines : ℕ → List (List ℕ) → List EffectLine → Type 0
AreEffectLines n [] [] = Unit {0}
AreEffectLines n (l ∷ ls) (e ∷ es) = IsEffectLine l n e × AreEffectLines (suc n) ls es
AreEffectLines n ls es = ⊥

-- a line before the first that is `execution` may be any other
abbrev pub IsBeforeFirst : List ℕ → Type 0
IsBeforeFirst line = fields_of line ≡ first_fields → ⊥

-- The lines are those of the effects: any others; the word `execution`; the effects, numbered from 1; the word `end`.
pub record IsExecutionText (lines : List (List ℕ)) (effects : List EffectLine) : Type 0 where
  pub before : List (List ℕ)
  pub first : List ℕ
  pub others : List (List ℕ)
  pub last : List ℕ
  pub are : lines ≡ before ++ first ∷ (others ++ last ∷ [])
  pub skipped : AllByRecursion IsBeforeFirst before
  pub begins : fields_of first ≡ first_fields
  pub spelled : AreEffectLines 1 others effects
  pub ends : fields_of last ≡ end_fields

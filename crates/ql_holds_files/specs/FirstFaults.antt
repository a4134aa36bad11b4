-- The first fault of a holds file, by the grammar.
use Rattle.std.specs.Prelude.{◌≡◌, ℕ, List, [], ◌∷◌, ◌++◌, length, codes, Some}
use Rattle.ql_lines.specs.Lines.{Ahead, Numbered, texts_of}
use Rattle.ql_lines.specs.declared.fault.Broken.{Broken}
use Rattle.ql_holds_files.specs.declared.effect_line.EffectLine.{EffectLine}
use Rattle.ql_holds_files.specs.declared.rules.HoldsRule.{HoldsRule}
use Rattle.ql_holds_files.specs.declared.rules.HoldsRule.TheVariants.{Unexpected, Range}
use Rattle.ql_holds_files.specs.ContractLine.{lowest_rule, sentence_faults}
use Rattle.ql_holds_files.specs.Grammar.{HoldsTree, IsHoldsFile}
use Rattle.ql_holds_files.specs.TreeRules.{HasCurrent, KeepsRules, rule_broken}

-- some file of the grammar begins with these lines
abbrev pub BeginsHoldsFile : List (List ℕ) → Type 0
BeginsHoldsFile lines = (more : List (List ℕ)) × (t : HoldsTree) × IsHoldsFile (lines ++ more) t

-- some file begins with these lines of which neither the contract nor an effect breaks a rule
abbrev pub BeginsKeeping : List (List ℕ) → Type 0
BeginsKeeping lines = (more : List (List ℕ)) × (t : HoldsTree) × IsHoldsFile (lines ++ more) t × KeepsRules t

-- The rule that the last of these lines breaks: no file of the grammar begins with them, or else it is the lowest rule of
-- the contract, or of the last effect.
pub data BreaksHoldsRule (lines : List (List ℕ)) : HoldsRule → Type 0 where
  unexpected : (BeginsHoldsFile lines → ⊥) → BreaksHoldsRule lines Unexpected
  contract : (more : List (List ℕ)) (t : HoldsTree) (rule : HoldsRule) → length lines ≡ 1 → IsHoldsFile (lines ++ more) t → lowest_rule (sentence_faults t.contract) ≡ Some rule → BreaksHoldsRule lines rule
  effect : (t : HoldsTree) (before : List EffectLine) (e : EffectLine) (rule : HoldsRule) → IsHoldsFile (lines ++ codes "end" ∷ []) t → t.effects ≡ before ++ e ∷ [] → rule_broken before e ≡ Some rule → BreaksHoldsRule lines rule

-- The first fault: the first line that breaks a rule; or the file's end, where lines are lacking; or, where nothing else is
-- wrong, the line of the current effect, where there is no such effect.
pub data FirstHoldsFault (file : Ahead) : Broken HoldsRule → Type 0 where
  at_line : (before : List Numbered) (l : Numbered) (rest : List Numbered) (rule : HoldsRule) → file.lines ≡ before ++ l ∷ rest → BeginsKeeping (texts_of before)
      → BreaksHoldsRule (texts_of (before ++ l ∷ [])) rule → FirstHoldsFault file (record { line = l.number; rule = rule })
  at_end : BeginsKeeping (texts_of file.lines) → ((t : HoldsTree) → IsHoldsFile (texts_of file.lines) t → ⊥) → FirstHoldsFault file (record { line = file.end; rule = Unexpected })
  no_current : (first second : Numbered) (rest : List Numbered) (t : HoldsTree) → file.lines ≡ first ∷ second ∷ rest → IsHoldsFile (texts_of file.lines) t → KeepsRules t
      → (HasCurrent t → ⊥) → FirstHoldsFault file (record { line = second.number; rule = Range })

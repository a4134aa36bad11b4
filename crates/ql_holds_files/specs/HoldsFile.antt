-- The holds files: the question of one, or its first fault.
use Rattle.std.specs.Prelude.{◌≡◌, ◌⊎◌, ℕ, suc, Bool, true, false, ◌&&◌, nat_le, [], map, length, Option, None, Some, Result, Ok, Err, if◌then◌else◌}
use Rattle.ql_lines.specs.Fields.{fields_of, Fields, IsId}
use Rattle.ql_lines.specs.Lines.{Ahead, Numbered}
use Rattle.ql_lines.specs.declared.fault.Broken.{Broken}
use Rattle.ql_lines.specs.declared.fault.LineFault.{LineFault}
use Rattle.ql_lines.specs.Outcomes.{Outcome}
use Rattle.ql_lang.specs.Trees.{Sentence}
use Rattle.ql_typing.specs.Resolved.{ops_met, resolved_in}
use Rattle.ql_holds_files.specs.declared.asked.Asked as asked
use Rattle.ql_holds_files.specs.declared.effect_line.EffectLine.{EffectLine}
use Rattle.ql_holds_files.specs.declared.effects.NamedEffects.{NamedEffects}
use Rattle.ql_holds_files.specs.declared.reading.Current.{Current}
use Rattle.ql_holds_files.specs.declared.reading.Stage.{Stage}
use Rattle.ql_holds_files.specs.declared.reading.Stage.TheVariants.{Unbegun, WithContract, WithEffects, Ended}
use Rattle.ql_holds_files.specs.declared.rules.HoldsRule.{HoldsRule}
use Rattle.ql_holds_files.specs.declared.rules.HoldsRule.TheVariants.{Unexpected, Range}
use Rattle.ql_holds_files.specs.ContractLine.{IsContractLine, sentence_faults, lowest_rule}
use Rattle.ql_holds_files.specs.EffectLine.{IsHoldsEffectLine, at_fields, effect_rule, holds_end_fields, with_named_effect}
use Rattle.ql_holds_files.specs.NamedFormulas.{NamedFormula}
use Rattle.ql_holds_files.specs.Rules.{unless_broken}

-- the question of a file: whether a formula is true in an execution, with the effect `cur` as the current one
abbrev pub Asked : Type 0
Asked = asked.Asked

-- ---- one line

-- The line is of a kind, and yields what its content makes; or it is not, and is Unexpected.
abbrev pub ExtendsHoldsAs : {L : Type 0} → (L → Type 0) → (L → Result Stage HoldsRule) → Result Stage HoldsRule → Type 0
ExtendsHoldsAs {L = L} Is makes x = ((line : L) × Is line × (x ≡ makes line)) ⊎ (((line : L) → Is line → ⊥) × (x ≡ Err Unexpected))

-- a contract's formula, where operations are numbered by first occurrence
abbrev pub named_formula_of : Sentence → NamedFormula
named_formula_of c = record { formula = resolved_in (ops_met [] c.vars) c; names = map (λ v. v.name.word) c.vars }

-- no effects yet, after a contract
abbrev pub no_effects : Sentence → NamedEffects
no_effects c = record { objects = []; ops = ops_met [] c.vars; effects = [] }

-- what a contract makes, or the lowest rule that it breaks
abbrev pub after_contract : Sentence → Result Stage HoldsRule
after_contract c = unless_broken (lowest_rule (sentence_faults c)) (WithContract (named_formula_of c) (no_effects c))

-- the line has the id of the current effect
abbrev pub IsCurrentLine : Fields → ℕ → Type 0
IsCurrentLine fields cur = IsId cur × (fields ≡ at_fields cur)

-- the line is the last, or an effect with this number
abbrev pub IsMore : ℕ → Fields → Option EffectLine → Type 0
IsMore id fields None = fields ≡ holds_end_fields
IsMore id fields (Some e) = IsHoldsEffectLine fields id e

-- what such a line makes, or the lowest rule that its effect breaks
abbrev pub after_more : NamedFormula → Current → NamedEffects → Option EffectLine → Result Stage HoldsRule
after_more formula current effects None = Ok (Ended formula current effects)
after_more formula current effects (Some e) = unless_broken (effect_rule effects e) (WithEffects formula current (with_named_effect effects e))

-- the stage that effects are read to, and whether their last line was
abbrev pub stage_after : NamedFormula → Current → NamedEffects → Result Bool (LineFault HoldsRule) → Result Stage (LineFault HoldsRule)
stage_after formula current effects (Ok true) = Ok (Ended formula current effects)
stage_after formula current effects (Ok false) = Ok (WithEffects formula current effects)
stage_after formula current effects (Err fault) = Err fault

-- what a line makes of what was read before it, or the lowest rule that it breaks
abbrev pub ExtendsHolds : Stage → Numbered → Result Stage HoldsRule → Type 0
ExtendsHolds Unbegun l x = ExtendsHoldsAs (IsContractLine l.text) after_contract x
ExtendsHolds (WithContract formula effects) l x = ExtendsHoldsAs (IsCurrentLine (fields_of l.text)) (λ cur. Ok (WithEffects formula (record { line = l.number; id = cur }) effects)) x
ExtendsHolds (WithEffects formula current effects) l x = ExtendsHoldsAs (IsMore (suc (length effects.effects)) (fields_of l.text)) (after_more formula current effects) x
ExtendsHolds (Ended formula current effects) l x = x ≡ Err Unexpected

-- ---- the end of a file

-- an effect of the execution
abbrev pub is_there : ℕ → NamedEffects → Bool
is_there id effects = nat_le 1 id && nat_le id (length effects.effects)

-- The question of a file that ends here. It may end after the word `end`; then the line of the current effect is at fault
-- where there is no such effect. Before that word the line after the last one is at fault.
abbrev pub closed : Stage → ℕ → Result Asked (Broken HoldsRule)
closed (Ended formula current effects) end =
    if is_there current.id effects then Ok (record { contract = formula; cur = record { 0 = current.id }; execution = effects.effects })
    else Err (record { line = current.line; rule = Range })
closed other end = Err (record { line = end; rule = Unexpected })

-- ---- the files

-- the question of the file, or its first fault: the first line that breaks a rule, and the lowest rule that it breaks; or its end
abbrev pub HoldsOutcome : Ahead → Result Asked (Broken HoldsRule) → Type 0
HoldsOutcome file x = Outcome ExtendsHolds (λ read end y. y ≡ closed read end) Unbegun file x

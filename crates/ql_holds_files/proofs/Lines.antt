-- what the readers of lines answer is given
use Rattle.std.proofs.Common.{◌≡◌, inr, inl, ℕ, suc, Bool, List, [], Option, None, Some, Result, Ok, Err, length, map, ap, refl, sym, subst, ◌∙◌}
use Rattle.ql_exec.specs.declared.effect.Effect.{Effect}
use Rattle.ql_lang.specs.Formulas.{Resolved}
use Rattle.ql_lang.specs.Trees.{Sentence}
use Rattle.ql_lang.specs.declared.contract.Var.{Var}
use Rattle.ql_lines.specs.Answers.{IsLineAnswer}
use Rattle.ql_lines.specs.declared.fault.LineFault.{LineFault}
use Rattle.ql_lines.specs.declared.fault.LineFault.TheVariants.{Breaks, NoMemory}
use Rattle.ql_lines.specs.Fields.{Fields}
use Rattle.ql_typing.specs.Resolved.{ops_met, resolved_in}
use Rattle.ql_typing.specs.declared.fault.TypeFault.{TypeFault}
use Rattle.ql_holds_files.specs.declared.effect_line.EffectLine.{EffectLine}
use Rattle.ql_holds_files.specs.declared.effects.NamedEffects.{NamedEffects}
use Rattle.ql_holds_files.specs.declared.reading.Current.{Current}
use Rattle.ql_holds_files.specs.declared.reading.Stage.{Stage}
use Rattle.ql_holds_files.specs.declared.reading.Stage.TheVariants.{WithContract, WithEffects}
use Rattle.ql_holds_files.specs.declared.rules.HoldsRule.{HoldsRule}
use Rattle.ql_holds_files.specs.declared.rules.HoldsRule.TheVariants.{Unexpected}
use Rattle.ql_holds_files.specs.ContractLine.{sentence_faults, lowest_rule}
use Rattle.ql_holds_files.specs.EffectLine.{IsHoldsEffectLine, effect_rule, holds_end_fields, with_named_effect}
use Rattle.ql_holds_files.specs.HoldsFile.{ExtendsHoldsAs, IsMore, after_contract, after_more, named_formula_of, no_effects, stage_after}
use Rattle.ql_holds_files.specs.NamedFormulas.{NamedFormula}
use Rattle.ql_holds_files.specs.Rules.{unless_broken}

-- ---- the contract

no_rule : (fs : List TypeFault) → fs ≡ [] → lowest_rule fs ≡ None
unfolding lowest_rule
no_rule fs none = ap lowest_rule none

contract_made : (c : Sentence) (formula : NamedFormula) (effects : NamedEffects) → sentence_faults c ≡ [] → formula ≡ named_formula_of c → effects ≡ no_effects c
    → ◌≡◌ {A = Result Stage HoldsRule} (Ok (WithContract formula effects)) (after_contract c)
contract_made c formula effects none is are =
    ap (λ (f : NamedFormula). Ok (WithContract f effects)) is ∙ ap (λ (e : NamedEffects). Ok (WithContract (named_formula_of c) e)) are
    ∙ sym (ap (λ (b : Option HoldsRule). unless_broken b (WithContract (named_formula_of c) (no_effects c))) (no_rule (sentence_faults c) none))

-- from the parts, as they are computed
module _ (c : Sentence) (none : sentence_faults c ≡ []) (start ops : List (List ℕ)) (is_start : start ≡ []) (are_ops : ops ≡ ops_met start c.vars) where
  ops_are : ops ≡ ops_met [] c.vars
  ops_are = are_ops ∙ ap (λ (o : List (List ℕ)). ops_met o c.vars) is_start

  pub contract_read : (resolved : Resolved) (vars : List Var) (names objects : List (List ℕ)) (effects : List Effect) (formula : NamedFormula)
      → resolved ≡ resolved_in ops c → vars ≡ c.vars → names ≡ map (λ (v : Var). v.name.word) vars → objects ≡ [] → effects ≡ []
      → formula ≡ record { formula = resolved; names = names }
      → ◌≡◌ {A = Result Stage HoldsRule} (Ok (WithContract formula (record { objects = objects; ops = ops; effects = effects }))) (after_contract c)
  contract_read resolved vars names objects effects formula is are_vars are_names no_objects no_effect of =
      contract_made c formula _ none
      (of ∙ ap (λ (r : Resolved). record { formula = r; names = names }) (is ∙ ap (λ (o : List (List ℕ)). resolved_in o c) ops_are)
      ∙ ap (λ (n : List (List ℕ)). record { formula = resolved_in (ops_met [] c.vars) c; names = n }) (are_names ∙ ap (map (λ (v : Var). v.name.word)) are_vars))
      (ap (λ (o : List (List ℕ)). record { objects = o; ops = ops; effects = effects }) no_objects
      ∙ ap (λ (o : List (List ℕ)). record { objects = []; ops = o; effects = effects }) ops_are
      ∙ ap (λ (x : List Effect). record { objects = []; ops = ops_met [] c.vars; effects = x }) no_effect)

-- ---- a line after the current effect's

module _ (formula : NamedFormula) (current : Current) (effects : NamedEffects) (fields : Fields) (id : ℕ) (is_next : id ≡ suc (length effects.effects)) where
  abbrev Given : Result Stage HoldsRule → Type 0
  Given x = ExtendsHoldsAs (IsMore (suc (length effects.effects)) fields) (after_more formula current effects) x

  at_next : (e : EffectLine) → IsHoldsEffectLine fields id e → IsHoldsEffectLine fields (suc (length effects.effects)) e
  at_next e is = subst (λ (n : ℕ). IsHoldsEffectLine fields n e) is_next is

  neither : ((e : EffectLine) → IsHoldsEffectLine fields id e → ⊥) → (fields ≡ holds_end_fields → ⊥) → (m : Option EffectLine) → IsMore (suc (length effects.effects)) fields m → ⊥
  neither none open_yet None is = open_yet is
  neither none open_yet (Some e) is = none e (subst (λ (n : ℕ). IsHoldsEffectLine fields n e) (sym is_next) is)

  pub no_more : ((e : EffectLine) → IsHoldsEffectLine fields id e → ⊥) → (fields ≡ holds_end_fields → ⊥) → Given (Err Unexpected)
  no_more none open_yet = inr (neither none open_yet, refl)

  module _ (e : EffectLine) (is : IsHoldsEffectLine fields id e) where
    made_by : (broken : Option HoldsRule) (made with : NamedEffects) → ◌≡◌ {A = Result NamedEffects HoldsRule} (Ok made) (unless_broken broken with)
        → ◌≡◌ {A = Result Stage HoldsRule} (Ok (WithEffects formula current made)) (unless_broken broken (WithEffects formula current with))
    made_by None made with h = let same : made ≡ with = cc in ap (λ (n : NamedEffects). Ok (WithEffects formula current n)) same
    made_by (Some rule) made with h = absurd cc

    pub effect_made : (made : NamedEffects) → ◌≡◌ {A = Result NamedEffects HoldsRule} (Ok made) (unless_broken (effect_rule effects e) (with_named_effect effects e)) → Given (Ok (WithEffects formula current made))
    effect_made made h = inl (Some e, at_next e is, made_by (effect_rule effects e) made (with_named_effect effects e) h)

    broken_by : (broken : Option HoldsRule) (rule : HoldsRule) (with : NamedEffects) → ◌≡◌ {A = Result NamedEffects HoldsRule} (Err rule) (unless_broken broken with)
        → ◌≡◌ {A = Result Stage HoldsRule} (Err rule) (unless_broken broken (WithEffects formula current with))
    broken_by None rule with h = absurd cc
    broken_by (Some other) rule with h = let same : rule ≡ other = cc in ap Err same

    pub effect_refused : (fault : LineFault HoldsRule) → IsLineAnswer (λ x. x ≡ unless_broken (effect_rule effects e) (with_named_effect effects e)) (Err fault) → IsLineAnswer Given (Err fault)
    effect_refused (Breaks rule) h = inl (Some e, at_next e is, broken_by (effect_rule effects e) rule (with_named_effect effects e) h)
    effect_refused NoMemory h = tt

-- whether it was the last one is known
pub stage_at : (P : Result Stage HoldsRule → Type 0) (formula : NamedFormula) (current : Current) (effects : NamedEffects) (b t : Bool) → b ≡ t → IsLineAnswer P (stage_after formula current effects (Ok b))
    → IsLineAnswer P (stage_after formula current effects (Ok t))
stage_at P formula current effects b t e h = subst (λ (x : Bool). IsLineAnswer P (stage_after formula current effects (Ok x))) e h

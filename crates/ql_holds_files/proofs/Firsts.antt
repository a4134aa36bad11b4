-- With a line that breaks a rule no file begins that keeps the rules.
use Rattle.std.proofs.Common.{◌≡◌, inl, inr, ℕ, List, [], ◌∷◌, ◌++◌, map, length, codes, Option, None, Some, arith, sym, ap, ◌∙◌, append_assoc, length-append}
use Rattle.std.proofs.lemmas.List.{append_cancel_right, map-append}
use Rattle.ql_lines.specs.Fields.{fields_of}
use Rattle.ql_holds_files.specs.declared.effect_line.EffectLine.{EffectLine}
use Rattle.ql_holds_files.specs.declared.rules.HoldsRule.{HoldsRule}
use Rattle.ql_holds_files.specs.ContractLine.{lowest_rule, sentence_faults}
use Rattle.ql_holds_files.specs.EffectLine.{holds_end_fields}
use Rattle.ql_holds_files.specs.Uniqueness.{OneContract}
use Rattle.ql_holds_files.specs.FirstFaults.BreaksHoldsRule.{unexpected, contract, effect}
use Rattle.ql_holds_files.specs.FirstFaults.{BeginsKeeping, BreaksHoldsRule}
use Rattle.ql_holds_files.specs.Grammar.{HoldsTree, IsHoldsFile, effect_lines}
use Rattle.ql_holds_files.specs.TreeRules.{KeepsRules, rule_broken}
use Rattle.ql_holds_files.proofs.Breaking.{no_whole}
use Rattle.ql_holds_files.proofs.Trees.{Lines, contract_of, lines_of, one_contract, one_line}
use Rattle.ql_holds_files.proofs.Keeping.{no_rule}
use Rattle.ql_holds_files.proofs.Spelled.{parted, same_effects}

not_both : (found : Option HoldsRule) (rule : HoldsRule) → found ≡ Some rule → found ≡ None → ⊥
not_both None rule some none = cc
not_both (Some r) rule some none = cc

-- a tree whose last effect breaks a rule has no file that goes on
no_longer : (x y : List ℕ) (zs more : List (List ℕ)) (t u : HoldsTree) (before : List EffectLine) (e : EffectLine) (rule : HoldsRule) → IsHoldsFile (x ∷ y ∷ (zs ++ codes "end" ∷ [])) t
    → t.effects ≡ before ++ e ∷ [] → rule_broken before e ≡ Some rule → IsHoldsFile (x ∷ y ∷ (zs ++ more)) u → KeepsRules u → ⊥
no_longer x y zs more t u before e rule h are broken h' keeps =
    let ended : Lines y (zs ++ codes "end" ∷ []) t = lines_of x y (zs ++ codes "end" ∷ []) t h in
    let longer : Lines y (zs ++ more) u = lines_of x y (zs ++ more) u h' in
    let read : map fields_of zs ≡ effect_lines 1 t.effects =
    append_cancel_right (map fields_of zs) (effect_lines 1 t.effects) (holds_end_fields ∷ []) (sym (map-append fields_of zs (codes "end" ∷ [])) ∙ ended.spelled) in
    elim (parted 1 (map fields_of zs) (map fields_of more) u.effects longer.effects (sym (map-append fields_of zs more) ∙ longer.spelled)) [
      | inl p ↦
          let same : t.effects ≡ p.first = same_effects 1 t.effects p.first ended.effects p.fits (ap (λ fs. fs ++ holds_end_fields ∷ []) (sym read ∙ p.lines)) in
          let whole : u.effects ≡ before ++ e ∷ p.second = p.are ∙ ap (λ es. es ++ p.second) (sym same ∙ are) ∙ append_assoc before (e ∷ []) p.second in
          not_both (rule_broken before e) rule broken (keeps.effects before e p.second whole)
      | inr w ↦ no_whole 1 u.effects t.effects (sym w.lines ∙ read)
    ]

no_effects_before_end : (x : List ℕ) (t : HoldsTree) (before : List EffectLine) (e : EffectLine) → IsHoldsFile (x ∷ codes "end" ∷ []) t → t.effects ≡ before ++ e ∷ [] → ⊥
no_effects_before_end x t before e h are =
    let lines : Lines (codes "end") [] t = lines_of x (codes "end") [] t h in
    omega (arith, ap length lines.spelled, length-append (effect_lines 1 t.effects) (holds_end_fields ∷ []))

pub none_begins : OneContract → (lines : List (List ℕ)) (rule : HoldsRule) → BreaksHoldsRule lines rule → BeginsKeeping lines → ⊥
none_begins one lines rule (unexpected none) (more, t, h, keeps) = none (more, t, h)
none_begins one [] rule (contract more' t' r single h' broken) (more, t, h, keeps) = absurd (omega (arith, single))
none_begins one (x ∷ ys) rule (contract more' t' r single h' broken) (more, t, h, keeps) =
    let same : t.contract ≡ t'.contract = one_contract one x t.contract t'.contract (contract_of x (ys ++ more) t h) (contract_of x (ys ++ more') t' h') in
    not_both (lowest_rule (sentence_faults t'.contract)) r broken (ap (λ c. lowest_rule (sentence_faults c)) (sym same) ∙ no_rule t.contract keeps.contract)
none_begins one [] rule (effect t' before e r h' are broken) (more, t, h, keeps) = one_line (codes "end") t' h'
none_begins one (x ∷ []) rule (effect t' before e r h' are broken) (more, t, h, keeps) = no_effects_before_end x t' before e h' are
none_begins one (x ∷ y ∷ zs) rule (effect t' before e r h' are broken) (more, t, h, keeps) = no_longer x y zs more t' t before e r h' are broken h keeps

-- Effects that a reader allows one after another are those that break no rule.
use Rattle.std.proofs.Common.{◌≡◌, List, [], ◌∷◌, ◌++◌, length, None, arith, refl, sym, ap, subst, ◌∙◌, append-nil, append_assoc, length-append}
use Rattle.ql_lang.specs.Trees.{Sentence}
use Rattle.ql_lines.proofs.Conses.{heads, tails}
use Rattle.ql_typing.specs.declared.fault.TypeFault.{TypeFault}
use Rattle.ql_holds_files.specs.declared.effect_line.EffectLine.{EffectLine}
use Rattle.ql_holds_files.specs.declared.effects.NamedEffects.{NamedEffects}
use Rattle.ql_holds_files.specs.ContractLine.{lowest_rule, sentence_faults}
use Rattle.ql_holds_files.specs.EffectLine.{with_named_effect}
use Rattle.ql_holds_files.specs.HoldsFile.{no_effects}
use Rattle.ql_holds_files.specs.TreeRules.{rule_broken}
use Rattle.ql_holds_files.proofs.Named.{AreAllowed, named_after, named_more, same_rule}

-- ---- the contract

none_broken : (fs : List TypeFault) → lowest_rule fs ≡ None → fs ≡ []
unfolding lowest_rule
none_broken [] none = refl
none_broken (f ∷ fs) none = absurd cc

pub no_faults : (c : Sentence) → lowest_rule (sentence_faults c) ≡ None → sentence_faults c ≡ []
no_faults c none = none_broken (sentence_faults c) none

nothing_broken : lowest_rule [] ≡ None
unfolding lowest_rule
nothing_broken = refl

pub no_rule : (c : Sentence) → sentence_faults c ≡ [] → lowest_rule (sentence_faults c) ≡ None
no_rule c none = ap lowest_rule none ∙ nothing_broken

-- ---- the effects

pub allowed_first : (named : NamedEffects) (es us : List EffectLine) → AreAllowed named (es ++ us) → AreAllowed named es
allowed_first named [] us allowed = tt
allowed_first named (e ∷ es) us allowed = (allowed.0, allowed_first (with_named_effect named e) es us allowed.1)

-- effects after others break no rule
abbrev pub KeepAfter : List EffectLine → List EffectLine → Type 0
KeepAfter start es = (before : List EffectLine) (e : EffectLine) (after : List EffectLine) → es ≡ before ++ e ∷ after → rule_broken (start ++ before) e ≡ None

module _ (c : Sentence) where
  pub allowed : (es start : List EffectLine) → KeepAfter start es → AreAllowed (named_after (no_effects c) start) es
  allowed [] start keep = tt
  allowed (e ∷ es) start keep = (
    same_rule c start e ∙ ap (λ before. rule_broken before e) (sym (append-nil start)) ∙ keep [] e es refl,
    subst (λ named. AreAllowed named es) (named_more (no_effects c) start e)
        (allowed es (start ++ e ∷ []) (λ before f after are. ap (λ b. rule_broken b f) (append_assoc start (e ∷ []) before) ∙ keep (e ∷ before) f after (ap (λ r. e ∷ r) are))),
  )

  pub kept : (es start : List EffectLine) → AreAllowed (named_after (no_effects c) start) es → KeepAfter start es
  kept [] start are_allowed before e after are = absurd (omega (arith, ap length are, length-append before (e ∷ after)))
  kept (f ∷ es) start are_allowed [] e after are =
      ap (λ b. rule_broken b e) (append-nil start)
      ∙ subst (λ g. rule_broken start g ≡ None) (heads f e es after are) (sym (same_rule c start f) ∙ are_allowed.0)
  kept (f ∷ es) start are_allowed (g ∷ before) e after are =
      ap (λ h. rule_broken (start ++ h ∷ before) e) (sym (heads f g es (before ++ e ∷ after) are))
      ∙ ap (λ b. rule_broken b e) (sym (append_assoc start (f ∷ []) before))
      ∙ kept es (start ++ f ∷ []) (subst (λ named. AreAllowed named es) (sym (named_more (no_effects c) start f)) are_allowed.1) before e after (tails f g es (before ++ e ∷ after) are)

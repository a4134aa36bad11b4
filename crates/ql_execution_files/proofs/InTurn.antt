-- Effects that break no rule one after another, and what was read after them.
use Rattle.std.proofs.Common.{◌≡◌, List, [], ◌∷◌, ◌++◌, Result, Ok, refl, sym, subst, ◌∙◌}
use Rattle.ql_lang.specs.declared.program.Program.{Program}
use Rattle.ql_effect_lines.specs.declared.effect_line.EffectLine.{EffectLine}
use Rattle.ql_effect_lines.specs.declared.rules.ReportRule.{ReportRule}
use Rattle.ql_effect_lines.specs.declared.effects_read.EffectsRead.{EffectsRead}
use Rattle.ql_effect_lines.specs.Effects.{after_effect}

abbrev pub ReadAfter : Program → EffectsRead → List EffectLine → EffectsRead → Type 0
ReadAfter p read [] more = read ≡ more
ReadAfter p read (e ∷ es) more = (next : EffectsRead) × (after_effect p read e ≡ Ok next) × ReadAfter p next es more

module _ (p : Program) where
  pub read_more : (es : List EffectLine) (e : EffectLine) (read middle more : EffectsRead) → ReadAfter p read es middle → after_effect p middle e ≡ Ok more → ReadAfter p read (es ++ e ∷ []) more
  read_more [] e read middle more h ok = (more, subst (λ (r : EffectsRead). after_effect p r e ≡ Ok more) (sym h) ok, refl)
  read_more (f ∷ es) e read middle more h ok = (h.0, h.1, read_more es e h.0 middle more h.2 ok)

  pub read_parts : (es us : List EffectLine) (read more : EffectsRead) → ReadAfter p read (es ++ us) more → (middle : EffectsRead) × ReadAfter p read es middle × ReadAfter p middle us more
  read_parts [] us read more h = (read, refl, h)
  read_parts (e ∷ es) us read more h = let rest = read_parts es us h.0 more h.2 in (rest.0, (h.0, h.1, rest.1), rest.2)

  -- effects are read in one way
  pub one_read : (es : List EffectLine) (read a b : EffectsRead) → ReadAfter p read es a → ReadAfter p read es b → a ≡ b
  one_read [] read a b h k = sym h ∙ k
  one_read (e ∷ es) read a b (next, ok, rest) (other, as_well, others) =
      let answers : ◌≡◌ {A = Result EffectsRead ReportRule} (Ok other) (Ok next) = sym as_well ∙ ok in
      let same : other ≡ next = cc in
      one_read es next a b rest (subst (λ (r : EffectsRead). ReadAfter p r es b) same others)

-- A line that a reader refuses breaks the rule, by the grammar, after lines that begin a file; and the other way.
use Rattle.std.proofs.Common.{◌≡◌, ◌⊎◌, inl, inr, ℕ, suc, List, [], ◌∷◌, ◌++◌, length, codes, Result, Ok, Err, refl, sym, ap, subst, ◌∙◌, append-nil, append_assoc}
use Rattle.ql_lang.specs.declared.program.Program.{Program}
use Rattle.ql_lines.specs.Fields.{fields_of}
use Rattle.ql_exec.specs.declared.effect.Effect.{Effect}
use Rattle.ql_effect_lines.specs.declared.effect_line.EffectLine.{EffectLine}
use Rattle.ql_effect_lines.specs.declared.effects_read.EffectsRead.{EffectsRead}
use Rattle.ql_effect_lines.specs.declared.rules.ReportRule.{ReportRule}
use Rattle.ql_effect_lines.specs.declared.rules.ReportRule.TheVariants.{Unexpected}
use Rattle.ql_effect_lines.specs.EffectLine.{IsEffectLine}
use Rattle.ql_effect_lines.specs.Effects.{after_effect}
use Rattle.ql_execution_files.specs.declared.format.ExecutionReading.{ExecutionReading}
use Rattle.ql_execution_files.specs.declared.format.ExecutionReading.TheVariants.{Unbegun, WithEffects, Ended}
use Rattle.ql_execution_files.specs.ExecutionFile.{Breaks, IsNoLine, end_fields, first_fields, nothing_read}
use Rattle.ql_execution_files.specs.FirstFaults.BreaksExecutionRule.{unexpected, effect}
use Rattle.ql_execution_files.specs.FirstFaults.{BeginsExecutionFile, BeginsExecutionText, BreaksExecutionRule}
use Rattle.ql_execution_files.specs.Grammar.{IsBeforeFirst, IsExecutionText}
use Rattle.ql_execution_files.specs.Readings.{SaysExecution, read_as}
use Rattle.ql_execution_files.proofs.EffectLists.{ascending, last_line, next, no_whole, none_left, nothing_after, one_list, parted, with_end, without_end}
use Rattle.ql_execution_files.proofs.Trees.{file_of}
use Rattle.ql_execution_files.proofs.Opening.{AreBeforeFirst, Opened, Spelled, Whole, after_skipped, cut, holds_after, opened_alone, opened_as, opened_more, opened_of, text_of}
use Rattle.ql_execution_files.proofs.Reached.{HasRead, Reached, all_skipped, next_number, opened_last, with_effect, with_last}
use Rattle.ql_execution_files.proofs.InTurn.{ReadAfter, one_read, read_parts}
use Rattle.ql_execution_files.proofs.Saying.{said, said_back}

-- ---- texts that end

abbrev end_text : List (List ℕ)
end_text = codes "end" ∷ []

first_is : fields_of (codes "execution") ≡ first_fields
first_is = refl

end_is : fields_of (codes "end") ≡ end_fields
end_is = refl

ended : (lines : List (List ℕ)) (es : List EffectLine) → Opened (Spelled es) lines → IsExecutionText (lines ++ end_text) es
ended lines es o = text_of (lines ++ end_text) es (opened_more (Spelled es) (Whole es) lines end_text (λ rest are. with_end 1 rest (codes "end") es are end_is) o)

opened_without_end : (lines : List (List ℕ)) (es : List EffectLine) → IsExecutionText (lines ++ end_text) es → Opened (Spelled es) lines
opened_without_end lines es h = elim (cut (Whole es) lines end_text (opened_of (lines ++ end_text) es h)) [
  | inl all ↦ absurd (opened_alone (Whole es) (codes "end") (after_skipped (Whole es) lines end_text all (opened_of (lines ++ end_text) es h)))
  | inr o ↦ opened_as (λ after. Whole es (after ++ end_text)) (Spelled es) lines o (without_end 1 o.rest (codes "end") es o.holds end_is)
]

-- no effects
text_without : (lines : List (List ℕ)) (l : List ℕ) → AreBeforeFirst lines → fields_of l ≡ first_fields → IsExecutionText (lines ++ l ∷ end_text) []
text_without lines l all is = text_of (lines ++ l ∷ end_text) [] (opened_last (Whole []) lines l end_text all is (end_is, refl))

module _ (p : Program) where
  says_read : (lines : List (List ℕ)) (read : EffectsRead) (has : HasRead p Spelled lines read) → (read ≡ read_as has.effects read.effects) × SaysExecution p has.effects read.effects
  says_read lines read has = said p has.effects read (ascending 1 has.opened.rest has.effects has.opened.holds) has.in_turn

  -- ---- what leads somewhere begins a file

  nothing_said : SaysExecution p [] []
  nothing_said = let says = said p [] nothing_read tt refl in says.1

  pub begins : (lines : List (List ℕ)) (s : ExecutionReading) → Reached p lines s → BeginsExecutionFile p lines
  begins lines Unbegun all = (codes "execution" ∷ end_text, [], [], text_without lines (codes "execution") all first_is, nothing_said)
  begins lines (WithEffects read) has = let says = says_read lines read has in (end_text, has.effects, read.effects, ended lines has.effects has.opened, says.1)
  begins lines (Ended read) has =
      let whole = file_of p lines read has in
      ([], whole.0, read.effects, subst (λ ks. IsExecutionText ks whole.0) (sym (append-nil lines)) whole.1, whole.2)

  led_on : (lines more : List (List ℕ)) (es : List EffectLine) (x : List Effect) → SaysExecution p es x → Opened (λ after. Whole es (after ++ more)) lines → (s : ExecutionReading) × Reached p lines s
  led_on lines more es x says o = elim (parted 1 o.rest more es o.holds) [
    | inl q ↦
        let whole : ReadAfter p nothing_read (q.first ++ q.second) (read_as es x) = subst (λ us. ReadAfter p nothing_read us (read_as es x)) q.are (said_back p es x says) in
        let parts = read_parts p q.first q.second nothing_read (read_as es x) whole in
        (WithEffects parts.0, record { effects = q.first; opened = opened_as (λ after. Whole es (after ++ more)) (Spelled q.first) lines o q.lines; in_turn = parts.1 })
    | inr w ↦ (Ended (read_as es x), record { effects = es; opened = opened_as (λ after. Whole es (after ++ more)) (Whole es) lines o w; in_turn = said_back p es x says })
  ]

  pub led : (lines : List (List ℕ)) → BeginsExecutionFile p lines → (s : ExecutionReading) × Reached p lines s
  led lines (more, es, x, h, says) = elim (cut (Whole es) lines more (opened_of (lines ++ more) es h)) [ inl all ↦ (Unbegun, all) | inr o ↦ led_on lines more es x says o ]

  -- ---- lines that go on

  opened_then : (lines : List (List ℕ)) (l : List ℕ) (more : List (List ℕ)) (us : List EffectLine) → IsExecutionText ((lines ++ l ∷ []) ++ more) us → Opened (Whole us) (lines ++ l ∷ more)
  opened_then lines l more us h = subst (Opened (Whole us)) (append_assoc lines (l ∷ []) more) (opened_of ((lines ++ l ∷ []) ++ more) us h)

  goes_on : (lines : List (List ℕ)) (read : EffectsRead) (l : List ℕ) → HasRead p Spelled lines read → BeginsExecutionText (lines ++ l ∷ [])
      → (fields_of l ≡ end_fields) ⊎ ((e : EffectLine) × IsEffectLine l (suc (length read.effects)) e)
  goes_on lines read l has (more, us, h) =
      let after = holds_after (Spelled has.effects) (Whole us) lines (l ∷ more) has.opened (opened_then lines l more us h) in
      elim (next 1 has.opened.rest l more has.effects us has.opened.holds after) [
        | inl end ↦ inl end
        | inr one ↦ inr (one.0, subst (λ (n : ℕ). IsEffectLine l n one.0) (sym (next_number p read has.effects has.in_turn)) one.1)
      ]

  none_goes_on : (lines : List (List ℕ)) (read : EffectsRead) (l : List ℕ) (rule : ReportRule) → HasRead p Spelled lines read → IsNoLine read l rule → BeginsExecutionText (lines ++ l ∷ []) → ⊥
  none_goes_on lines read l rule has is begun = elim (goes_on lines read l has begun) [ inl end ↦ is.no_end end | inr one ↦ is.no_effect one.0 one.1 ]

  none_after : (lines : List (List ℕ)) (read : EffectsRead) (l : List ℕ) → HasRead p Whole lines read → BeginsExecutionText (lines ++ l ∷ []) → ⊥
  none_after lines read l has (more, us, h) =
      nothing_after 1 has.opened.rest l more has.effects us has.opened.holds (holds_after (Whole has.effects) (Whole us) lines (l ∷ more) has.opened (opened_then lines l more us h))

  -- ---- a line that is refused

  pub breaks : (lines : List (List ℕ)) (s : ExecutionReading) (l : List ℕ) (rule : ReportRule) → Reached p lines s → Breaks p s l rule → BreaksExecutionRule p (lines ++ l ∷ []) rule
  breaks lines Unbegun l rule all b = absurd b
  breaks lines (WithEffects read) l rule has (inl b) = subst (BreaksExecutionRule p (lines ++ l ∷ [])) (sym b.is) (unexpected (none_goes_on lines read l rule has b))
  breaks lines (WithEffects read) l rule has (inr b) =
      let says = says_read lines read has in
      effect has.effects b.effect read.effects rule (ended (lines ++ l ∷ []) (has.effects ++ b.effect ∷ []) (with_effect p lines read has l b.effect b.is)) says.1
      (ap (λ (r : EffectsRead). after_effect p r b.effect) (sym says.0) ∙ b.unlawful)
  breaks lines (Ended read) l rule has b = subst (BreaksExecutionRule p (lines ++ l ∷ [])) (sym b) (unexpected (none_after lines read l has))

  -- lines before the first that is `execution` break nothing
  begins_any : (lines : List (List ℕ)) (l : List ℕ) → AreBeforeFirst lines → (BeginsExecutionText (lines ++ l ∷ []) → ⊥) → ⊥
  begins_any lines l all none = none (codes "execution" ∷ end_text, [], text_without (lines ++ l ∷ []) (codes "execution") (all_skipped lines l all other) first_is)
    where
      other : IsBeforeFirst l
      other is = none (end_text, [], subst (λ ks. IsExecutionText ks []) (sym (append_assoc lines (l ∷ []) end_text)) (text_without lines l all is))

  no_effect_yet : (lines : List (List ℕ)) (l : List ℕ) (others : List EffectLine) (e : EffectLine) → AreBeforeFirst lines → IsExecutionText ((lines ++ l ∷ []) ++ end_text) (others ++ e ∷ []) → ⊥
  no_effect_yet lines l others e all h =
      let o = after_skipped (Spelled (others ++ e ∷ [])) lines (l ∷ []) all (opened_without_end (lines ++ l ∷ []) (others ++ e ∷ []) h) in
      none_left 1 others e (opened_alone (Spelled (others ++ e ∷ [])) l o)

  module _ (lines : List (List ℕ)) (read : EffectsRead) (l : List ℕ) (has : HasRead p Spelled lines read) where
    no_line : (BeginsExecutionText (lines ++ l ∷ []) → ⊥) → IsNoLine read l Unexpected
    no_line none = record {
      is = refl;
      no_effect = λ e at. none (end_text, has.effects ++ e ∷ [], ended (lines ++ l ∷ []) (has.effects ++ e ∷ []) (with_effect p lines read has l e at));
      no_end = λ end. none ([], has.effects, subst (λ ks. IsExecutionText ks has.effects) (sym (append-nil (lines ++ l ∷ []))) (text_of (lines ++ l ∷ []) has.effects (with_last p lines read has l end)));
    }

    refused_effect : (others : List EffectLine) (e : EffectLine) (x : List Effect) (rule : ReportRule) → IsExecutionText ((lines ++ l ∷ []) ++ end_text) (others ++ e ∷ []) → SaysExecution p others x
        → after_effect p (read_as others x) e ≡ Err rule → Breaks p (WithEffects read) l rule
    refused_effect others e x rule h says refused =
        let lines_are = holds_after (Spelled has.effects) (Spelled (others ++ e ∷ [])) lines (l ∷ []) has.opened (opened_without_end (lines ++ l ∷ []) (others ++ e ∷ []) h) in
        let last = last_line 1 has.opened.rest l has.effects others e has.opened.holds lines_are in
        let here : ReadAfter p nothing_read others read = subst (λ us. ReadAfter p nothing_read us read) last.0 has.in_turn in
        let same : read ≡ read_as others x = one_read p others nothing_read read (read_as others x) here (said_back p others x says) in
        inr (record {
          effect = e;
          is = subst (λ (n : ℕ). IsEffectLine l n e) (sym (next_number p read has.effects has.in_turn)) last.1;
          unlawful = ap (λ (r : EffectsRead). after_effect p r e) same ∙ refused;
        })

  pub refused_there : (lines : List (List ℕ)) (s : ExecutionReading) (l : List ℕ) (rule : ReportRule) → Reached p lines s → BreaksExecutionRule p (lines ++ l ∷ []) rule → Breaks p s l rule
  refused_there lines Unbegun l rule all (unexpected none) = absurd (begins_any lines l all none)
  refused_there lines Unbegun l rule all (effect others e x r h says refused) = absurd (no_effect_yet lines l others e all h)
  refused_there lines (WithEffects read) l rule has (unexpected none) = inl (no_line lines read l has none)
  refused_there lines (WithEffects read) l rule has (effect others e x r h says refused) = refused_effect lines read l has others e x r h says refused
  refused_there lines (Ended read) l rule has (unexpected none) = refl
  refused_there lines (Ended read) l rule has (effect others e x r h says refused) = absurd (none_after lines read l has (end_text, others ++ e ∷ [], h))

  -- ---- no file of the program begins any more

  not_both : (read : EffectsRead) (e : EffectLine) (more : EffectsRead) (rule : ReportRule) → after_effect p read e ≡ Ok more → after_effect p read e ≡ Err rule → ⊥
  not_both read e more rule ok refused =
      let never : ◌≡◌ {A = Result EffectsRead ReportRule} (Ok more) (Err rule) = sym ok ∙ refused in
      cc

  no_longer : (others : List EffectLine) (e : EffectLine) (second : List EffectLine) (y : List Effect) (more : EffectsRead) (rule : ReportRule) → SaysExecution p others y
      → after_effect p (read_as others y) e ≡ Err rule → ReadAfter p nothing_read ((others ++ e ∷ []) ++ second) more → ⊥
  no_longer others e second y more rule says refused h =
      let parts = read_parts p (others ++ e ∷ []) second nothing_read more h in
      let first = read_parts p others (e ∷ []) nothing_read parts.0 parts.1 in
      let same : first.0 ≡ read_as others y = one_read p others nothing_read first.0 (read_as others y) first.1 (said_back p others y says) in
      not_both (read_as others y) e first.2.0 rule (ap (λ (r : EffectsRead). after_effect p r e) (sym same) ∙ first.2.1) refused

  pub none_begins : (lines : List (List ℕ)) (rule : ReportRule) → BreaksExecutionRule p lines rule → BeginsExecutionFile p lines → ⊥
  none_begins lines rule (unexpected none) (more, us, x, h, says) = none (more, us, h)
  none_begins lines rule (effect others e y r text before refused) (more, us, x, h, says) =
      let ws = others ++ e ∷ [] in
      let o = opened_without_end lines ws text in
      let after = holds_after (Spelled ws) (Whole us) lines more o (opened_of (lines ++ more) us h) in
      elim (parted 1 o.rest more us after) [
        | inl q ↦
            let whole : us ≡ ws ++ q.second = q.are ∙ ap (λ vs. vs ++ q.second) (one_list 1 o.rest q.first ws q.lines o.holds) in
            no_longer others e q.second y (read_as us x) r before refused (subst (λ vs. ReadAfter p nothing_read vs (read_as us x)) whole (said_back p us x says))
        | inr w ↦ no_whole 1 o.rest ws us o.holds w
      ]

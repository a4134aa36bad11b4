-- What the lines of a file, one after another, lead to.
use Rattle.std.proofs.Common.{◌≡◌, inl, inr, ℕ, suc, ◌+◌, List, [], ◌∷◌, ◌++◌, length, arith, refl, sym, ap, subst, ◌∙◌, append-nil, append_assoc, length-append}
use Rattle.ql_lang.specs.declared.program.Program.{Program}
use Rattle.ql_lines.proofs.Conses.{heads, tails}
use Rattle.ql_lines.specs.Fields.{fields_of}
use Rattle.ql_lines.specs.Lines.{Numbered, texts_of}
use Rattle.ql_lines.specs.Outcomes.{Leads}
use Rattle.ql_effect_lines.specs.declared.effect_line.EffectLine.{EffectLine}
use Rattle.ql_effect_lines.specs.declared.effects_read.EffectsRead.{EffectsRead}
use Rattle.ql_effect_lines.specs.EffectLine.{IsEffectLine}
use Rattle.ql_execution_files.specs.declared.format.ExecutionReading.{ExecutionReading}
use Rattle.ql_execution_files.specs.declared.format.ExecutionReading.TheVariants.{Unbegun, WithEffects, Ended}
use Rattle.ql_execution_files.specs.ExecutionFile.{ClosesExecution, Takes, end_fields, first_fields, gives, nothing_read}
use Rattle.ql_execution_files.specs.Grammar.{AreEffectLines, IsBeforeFirst}
use Rattle.ql_execution_files.proofs.EffectLists.{AreEffectsThenEnd, line_more, with_end}
use Rattle.ql_execution_files.proofs.Opening.{AreBeforeFirst, Opened, Spelled, Whole, opened_later, opened_more, opened_now}
use Rattle.ql_execution_files.proofs.InTurn.{ReadAfter, read_more}
use Rattle.ql_execution_files.proofs.Saying.{count, one_counted}

-- the lines of effects that break no rule one after another
pub record HasRead (p : Program) (After : List EffectLine → List (List ℕ) → Type 0) (lines : List (List ℕ)) (read : EffectsRead) : Type 0 where
  pub effects : List EffectLine
  pub opened : Opened (After effects) lines
  pub in_turn : ReadAfter p nothing_read effects read

abbrev pub Reached : Program → List (List ℕ) → ExecutionReading → Type 0
Reached p lines Unbegun = AreBeforeFirst lines
Reached p lines (WithEffects read) = HasRead p Spelled lines read
Reached p lines (Ended read) = HasRead p Whole lines read

-- lines lead from one state of reading to another
abbrev pub LeadsTo : Program → ExecutionReading → List Numbered → ExecutionReading → Type 0
LeadsTo p s ls t = Leads (gives p) ClosesExecution s ls t

pub all_skipped : (lines : List (List ℕ)) (l : List ℕ) → AreBeforeFirst lines → IsBeforeFirst l → AreBeforeFirst (lines ++ l ∷ [])
all_skipped [] l all is = (is, tt)
all_skipped (k ∷ lines) l all is = (all.0, all_skipped lines l all.1 is)

pub opened_last : (P : List (List ℕ) → Type 0) (before : List (List ℕ)) (l : List ℕ) (more : List (List ℕ)) → AreBeforeFirst before → fields_of l ≡ first_fields → P more → Opened P (before ++ l ∷ more)
opened_last P [] l more all is holds = opened_now P l more is holds
opened_last P (k ∷ before) l more all is holds = opened_later P k (before ++ l ∷ more) all.0 (opened_last P before l more all.1 is holds)

module _ (p : Program) where
  -- the number of the next effect
  pub next_number : (read : EffectsRead) (es : List EffectLine) → ReadAfter p nothing_read es read → suc (length read.effects) ≡ 1 + length es
  next_number read es h = omega (arith, count p es read h)

  module _ (lines : List (List ℕ)) (read : EffectsRead) (has : HasRead p Spelled lines read) where
    pub with_effect : (l : List ℕ) (e : EffectLine) → IsEffectLine l (suc (length read.effects)) e → Opened (Spelled (has.effects ++ e ∷ [])) (lines ++ l ∷ [])
    with_effect l e is =
        let number = next_number read has.effects has.in_turn in
        opened_more (Spelled has.effects) (Spelled (has.effects ++ e ∷ [])) lines (l ∷ [])
        (λ rest are. line_more 1 rest l has.effects e are (subst (λ (n : ℕ). IsEffectLine l n e) number is)) has.opened

    pub with_last : (l : List ℕ) → fields_of l ≡ end_fields → Opened (Whole has.effects) (lines ++ l ∷ [])
    with_last l is = opened_more (Spelled has.effects) (Whole has.effects) lines (l ∷ []) (λ rest are. with_end 1 rest l has.effects are is) has.opened

  step : (lines : List (List ℕ)) (s : ExecutionReading) (l : List ℕ) (t : ExecutionReading) → Reached p lines s → Takes p s l t → Reached p (lines ++ l ∷ []) t
  step lines Unbegun l t all (inl h) = subst (Reached p (lines ++ l ∷ [])) (sym h.1) (record { effects = []; opened = opened_last (Spelled []) lines l [] all h.0 tt; in_turn = refl })
  step lines Unbegun l t all (inr h) = subst (Reached p (lines ++ l ∷ [])) (sym h.1) (all_skipped lines l all h.0)
  step lines (WithEffects read) l t has (inl h) = subst (Reached p (lines ++ l ∷ [])) (sym h.to) (record {
    effects = has.effects ++ h.effect ∷ [];
    opened = with_effect lines read has l h.effect h.is;
    in_turn = read_more p has.effects h.effect nothing_read read h.more has.in_turn h.lawful;
  })
  step lines (WithEffects read) l t has (inr h) = subst (Reached p (lines ++ l ∷ [])) (sym h.to) (record { effects = has.effects; opened = with_last lines read has l h.is; in_turn = has.in_turn })
  step lines (Ended read) l t has h = absurd h

  reached_from : (ls : List Numbered) (lines : List (List ℕ)) (s t : ExecutionReading) → Reached p lines s → LeadsTo p s ls t → Reached p (lines ++ texts_of ls) t
  unfolding Leads
  reached_from [] lines s t has h = subst (λ ks. Reached p ks t) (sym (append-nil lines)) (subst (Reached p lines) h has)
  reached_from (l ∷ ls) lines s t has (next, g, rest) =
      subst (λ ks. Reached p ks t) (append_assoc lines (l.text ∷ []) (texts_of ls)) (reached_from ls (lines ++ l.text ∷ []) next t (step lines s l.text next has g) rest)

  pub reached : (ls : List Numbered) (s : ExecutionReading) → LeadsTo p Unbegun ls s → Reached p (texts_of ls) s
  reached ls s h = reached_from ls [] Unbegun s tt h

  -- ---- and back

  lead_nowhere : (ls : List Numbered) → AreBeforeFirst (texts_of ls) → LeadsTo p Unbegun ls Unbegun
  unfolding Leads
  lead_nowhere [] all = refl
  lead_nowhere (l ∷ ls) all = (Unbegun, inr (all.0, refl), lead_nowhere ls all.1)

  no_texts : (before : List (List ℕ)) (first : List ℕ) (rest : List (List ℕ)) → [] ≡ before ++ first ∷ rest → ⊥
  no_texts before first rest are = omega (arith, ap length are, length-append before (first ∷ rest))

  lead_on : (ls : List Numbered) (before : List (List ℕ)) (first : List ℕ) (rest : List (List ℕ)) (s : ExecutionReading) → texts_of ls ≡ before ++ first ∷ rest → AreBeforeFirst before → fields_of first ≡ first_fields
      → ((more : List Numbered) → texts_of more ≡ rest → LeadsTo p (WithEffects nothing_read) more s) → LeadsTo p Unbegun ls s
  unfolding Leads
  lead_on [] before first rest s are all is on = absurd (no_texts before first rest are)
  lead_on (l ∷ ls) [] first rest s are all is on =
      (WithEffects nothing_read, inl (ap fields_of (heads l.text first (texts_of ls) rest are) ∙ is, refl), on ls (tails l.text first (texts_of ls) rest are))
  lead_on (l ∷ ls) (b ∷ bs) first rest s are all is on = (
    Unbegun,
    inr (subst IsBeforeFirst (sym (heads l.text b (texts_of ls) (bs ++ first ∷ rest) are)) all.0, refl),
    lead_on ls bs first rest s (tails l.text b (texts_of ls) (bs ++ first ∷ rest) are) all.1 is on,
  )

  lead_effects : (es : List EffectLine) (ls : List Numbered) (read more : EffectsRead) → AreEffectLines (suc (length read.effects)) (texts_of ls) es → ReadAfter p read es more → LeadsTo p (WithEffects read) ls (WithEffects more)
  unfolding Leads
  lead_effects [] [] read more lines h = ap WithEffects h
  lead_effects [] (l ∷ ls) read more lines h = absurd lines
  lead_effects (e ∷ es) [] read more lines h = absurd lines
  lead_effects (e ∷ es) (l ∷ ls) read more lines (next, ok, rest) = (
    WithEffects next,
    inl (record { effect = e; more = next; is = lines.0; lawful = ok; to = refl }),
    lead_effects es ls next more (subst (λ (n : ℕ). AreEffectLines n (texts_of ls) es) (sym (one_counted p read e next ok)) lines.1) rest,
  )

  lead_to_end : (es : List EffectLine) (ls : List Numbered) (read more : EffectsRead) → AreEffectsThenEnd (suc (length read.effects)) (texts_of ls) es → ReadAfter p read es more → LeadsTo p (WithEffects read) ls (Ended more)
  unfolding Leads
  lead_to_end es [] read more lines h = absurd lines
  lead_to_end [] (l ∷ []) read more lines h = (Ended read, inr (record { is = lines.0; to = refl }), ap Ended h)
  lead_to_end [] (l ∷ k ∷ ls) read more lines h = absurd (omega (arith, ap length lines.1))
  lead_to_end (e ∷ es) (l ∷ ls) read more lines (next, ok, rest) = (
    WithEffects next,
    inl (record { effect = e; more = next; is = lines.0; lawful = ok; to = refl }),
    lead_to_end es ls next more (subst (λ (n : ℕ). AreEffectsThenEnd n (texts_of ls) es) (sym (one_counted p read e next ok)) lines.1) rest,
  )

  pub leads : (ls : List Numbered) (s : ExecutionReading) → Reached p (texts_of ls) s → LeadsTo p Unbegun ls s
  leads ls Unbegun all = lead_nowhere ls all
  leads ls (WithEffects read) has =
      let o = has.opened in
      lead_on ls o.before o.first o.rest (WithEffects read) o.are o.skipped o.begins
      (λ more are. lead_effects has.effects more nothing_read read (subst (Spelled has.effects) (sym are) o.holds) has.in_turn)
  leads ls (Ended read) has =
      let o = has.opened in
      lead_on ls o.before o.first o.rest (Ended read) o.are o.skipped o.begins
      (λ more are. lead_to_end has.effects more nothing_read read (subst (Whole has.effects) (sym are) o.holds) has.in_turn)

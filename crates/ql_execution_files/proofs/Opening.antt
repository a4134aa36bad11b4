-- The first line that is `execution`: what stands before it, and what comes after.
use Rattle.std.proofs.Common.{◌≡◌, ◌⊎◌, inl, inr, ℕ, List, [], ◌∷◌, ◌++◌, length, arith, refl, sym, ap, subst, ◌∙◌, append_assoc, length-append}
use Rattle.std.specs.List.{AllByRecursion}
use Rattle.ql_lines.proofs.Conses.{heads, tails}
use Rattle.ql_lines.specs.Fields.{fields_of}
use Rattle.ql_effect_lines.specs.declared.effect_line.EffectLine.{EffectLine}
use Rattle.ql_execution_files.specs.ExecutionFile.{first_fields}
use Rattle.ql_execution_files.specs.Grammar.{AreEffectLines, IsBeforeFirst, IsExecutionText}
use Rattle.ql_execution_files.proofs.EffectLists.{AreEffectsThenEnd, Ending, ending, with_end}

abbrev pub AreBeforeFirst : List (List ℕ) → Type 0
AreBeforeFirst ls = AllByRecursion IsBeforeFirst ls

-- one of the lines is `execution`, and the lines after the first such line are as told
pub record Opened (After : List (List ℕ) → Type 0) (lines : List (List ℕ)) : Type 0 where
  pub before : List (List ℕ)
  pub first : List ℕ
  pub rest : List (List ℕ)
  pub are : lines ≡ before ++ first ∷ rest
  pub skipped : AreBeforeFirst before
  pub begins : fields_of first ≡ first_fields
  pub holds : After rest

module _ (P : List (List ℕ) → Type 0) where
  pub opened_now : (l : List ℕ) (ls : List (List ℕ)) → fields_of l ≡ first_fields → P ls → Opened P (l ∷ ls)
  opened_now l ls is holds = record { before = []; first = l; rest = ls; are = refl; skipped = tt; begins = is; holds = holds }

  pub opened_later : (l : List ℕ) (ls : List (List ℕ)) → IsBeforeFirst l → Opened P ls → Opened P (l ∷ ls)
  opened_later l ls is o = record {
    before = l ∷ o.before;
    first = o.first;
    rest = o.rest;
    are = ap (λ ks. l ∷ ks) o.are;
    skipped = (is, o.skipped);
    begins = o.begins;
    holds = o.holds;
  }

  skip_at : (l : List ℕ) (ls before : List (List ℕ)) (first : List ℕ) (rest : List (List ℕ)) → IsBeforeFirst l → l ∷ ls ≡ before ++ first ∷ rest → AreBeforeFirst before → fields_of first ≡ first_fields → P rest
      → Opened P ls
  skip_at l ls [] first rest is are skipped begins holds = absurd (is (ap fields_of (heads l first ls rest are) ∙ begins))
  skip_at l ls (b ∷ bs) first rest is are skipped begins holds =
      record { before = bs; first = first; rest = rest; are = tails l b ls (bs ++ first ∷ rest) are; skipped = skipped.1; begins = begins; holds = holds }

  skip_one : (l : List ℕ) (ls : List (List ℕ)) → IsBeforeFirst l → Opened P (l ∷ ls) → Opened P ls
  skip_one l ls is o = skip_at l ls o.before o.first o.rest is o.are o.skipped o.begins o.holds

  -- what is opened after lines before the first isn't opened by them
  pub after_skipped : (ls more : List (List ℕ)) → AreBeforeFirst ls → Opened P (ls ++ more) → Opened P more
  after_skipped [] more all o = o
  after_skipped (l ∷ ls) more all o = after_skipped ls more all.1 (skip_one l (ls ++ more) all.0 o)

  -- nothing comes after a line that is opened alone
  pub opened_alone : (l : List ℕ) → Opened P (l ∷ []) → P []
  opened_alone l o = alone o.before o.first o.rest o.are o.holds
    where
      alone : (before : List (List ℕ)) (first : List ℕ) (rest : List (List ℕ)) → l ∷ [] ≡ before ++ first ∷ rest → P rest → P []
      alone [] first rest are holds = subst P (sym (tails l first [] rest are)) holds
      alone (b ∷ bs) first rest are holds = absurd (omega (arith, ap length are, length-append bs (first ∷ rest)))

  pub not_opened : (ls : List (List ℕ)) → AreBeforeFirst ls → Opened P ls → ⊥
  not_opened [] all o = omega (arith, ap length o.are, length-append o.before (o.first ∷ o.rest))
  not_opened (l ∷ ls) all o = not_opened ls all.1 (skip_one l ls all.0 o)

  -- lines that begin opened ones aren't opened, or are opened where those are
  cut_at : (ls more before : List (List ℕ)) (first : List ℕ) (rest : List (List ℕ)) → ls ++ more ≡ before ++ first ∷ rest → AreBeforeFirst before → fields_of first ≡ first_fields → P rest
      → AreBeforeFirst ls ⊎ Opened (λ after. P (after ++ more)) ls
  cut_at [] more before first rest are skipped begins holds = inl tt
  cut_at (l ∷ ls) more [] first rest are skipped begins holds = inr (record {
    before = [];
    first = l;
    rest = ls;
    are = refl;
    skipped = tt;
    begins = ap fields_of (heads l first (ls ++ more) rest are) ∙ begins;
    holds = subst P (sym (tails l first (ls ++ more) rest are)) holds;
  })
  cut_at (l ∷ ls) more (b ∷ bs) first rest are skipped begins holds =
      let other : IsBeforeFirst l = subst IsBeforeFirst (sym (heads l b (ls ++ more) (bs ++ first ∷ rest) are)) skipped.0 in
      elim (cut_at ls more bs first rest (tails l b (ls ++ more) (bs ++ first ∷ rest) are) skipped.1 begins holds) [
        | inl all ↦ inl (other, all)
        | inr o ↦ inr (record {
          before = l ∷ o.before;
          first = o.first;
          rest = o.rest;
          are = ap (λ ks. l ∷ ks) o.are;
          skipped = (other, o.skipped);
          begins = o.begins;
          holds = o.holds;
        })
      ]

  pub cut : (ls more : List (List ℕ)) → Opened P (ls ++ more) → AreBeforeFirst ls ⊎ Opened (λ after. P (after ++ more)) ls
  cut ls more o = cut_at ls more o.before o.first o.rest o.are o.skipped o.begins o.holds

-- ---- more lines

module _ (P Q : List (List ℕ) → Type 0) where
  -- where more comes after lines that are opened
  pub opened_more : (ls more : List (List ℕ)) → ((rest : List (List ℕ)) → P rest → Q (rest ++ more)) → Opened P ls → Opened Q (ls ++ more)
  opened_more ls more on o = record {
    before = o.before;
    first = o.first;
    rest = o.rest ++ more;
    are = ap (λ ks. ks ++ more) o.are ∙ append_assoc o.before (o.first ∷ o.rest) more;
    skipped = o.skipped;
    begins = o.begins;
    holds = on o.rest o.holds;
  }

  -- where the lines after the first are also as told otherwise
  pub opened_as : (ls : List (List ℕ)) (o : Opened P ls) → Q o.rest → Opened Q ls
  opened_as ls o holds = record { before = o.before; first = o.first; rest = o.rest; are = o.are; skipped = o.skipped; begins = o.begins; holds = holds }

-- lines are opened at one line
one_rest : (b c : List (List ℕ)) (f g : List ℕ) (r q : List (List ℕ)) → b ++ f ∷ r ≡ c ++ g ∷ q → AreBeforeFirst b → AreBeforeFirst c → fields_of f ≡ first_fields → fields_of g ≡ first_fields → r ≡ q
one_rest [] [] f g r q are p s is as_well = tails f g r q are
one_rest [] (k ∷ c) f g r q are p s is as_well = absurd (s.0 (ap fields_of (sym (heads f k r (c ++ g ∷ q) are)) ∙ is))
one_rest (k ∷ b) [] f g r q are p s is as_well = absurd (p.0 (ap fields_of (heads k g (b ++ f ∷ r) q are) ∙ as_well))
one_rest (k ∷ b) (j ∷ c) f g r q are p s is as_well = one_rest b c f g r q (tails k j (b ++ f ∷ r) (c ++ g ∷ q) are) p.1 s.1 is as_well

module _ (P Q : List (List ℕ) → Type 0) where
  pub holds_after : (ls more : List (List ℕ)) (o : Opened P ls) → Opened Q (ls ++ more) → Q (o.rest ++ more)
  holds_after ls more o u =
      let whole : o.before ++ o.first ∷ (o.rest ++ more) ≡ u.before ++ u.first ∷ u.rest = sym (append_assoc o.before (o.first ∷ o.rest) more) ∙ ap (λ ks. ks ++ more) (sym o.are) ∙ u.are in
      subst Q (sym (one_rest o.before u.before o.first u.first (o.rest ++ more) u.rest whole o.skipped u.skipped o.begins u.begins)) u.holds

  pub holds_too : (ls : List (List ℕ)) (o : Opened P ls) → Opened Q ls → Q o.rest
  holds_too ls o u = subst Q (sym (one_rest o.before u.before o.first u.first o.rest u.rest (sym o.are ∙ u.are) o.skipped u.skipped o.begins u.begins)) u.holds

-- ---- the lines of a file

abbrev pub Spelled : List EffectLine → List (List ℕ) → Type 0
Spelled es ls = AreEffectLines 1 ls es

abbrev pub Whole : List EffectLine → List (List ℕ) → Type 0
Whole es ls = AreEffectsThenEnd 1 ls es

pub opened_of : (lines : List (List ℕ)) (es : List EffectLine) → IsExecutionText lines es → Opened (Whole es) lines
opened_of lines es h = record {
  before = h.before;
  first = h.first;
  rest = h.others ++ h.last ∷ [];
  are = h.are;
  skipped = h.skipped;
  begins = h.begins;
  holds = with_end 1 h.others h.last es h.spelled h.ends;
}

pub text_of : (lines : List (List ℕ)) (es : List EffectLine) → Opened (Whole es) lines → IsExecutionText lines es
text_of lines es o =
    let rest : Ending 1 o.rest es = ending 1 o.rest es o.holds in
    record {
      before = o.before;
      first = o.first;
      others = rest.others;
      last = rest.last;
      are = o.are ∙ ap (λ ks. o.before ++ o.first ∷ ks) rest.are;
      skipped = o.skipped;
      begins = o.begins;
      spelled = rest.spelled;
      ends = rest.ends;
    }

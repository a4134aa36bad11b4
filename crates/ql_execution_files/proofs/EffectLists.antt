-- Lines of effects spell one list of effects, and the word `end` is none of them.
use Rattle.std.proofs.Common.{◌≡◌, ◌⊎◌, inl, inr, ◌+◌, ℕ, suc, List, [], ◌∷◌, ◌++◌, length, codes, arith, refl, ap, subst, length-append}
use Rattle.std.specs.List.{AllByRecursion}
use Rattle.ql_base.specs.IdLists.{IsAscending}
use Rattle.ql_lines.proofs.Conses.{both}
use Rattle.ql_lines.specs.Fields.{fields_of}
use Rattle.ql_effect_lines.specs.declared.effect_line.EffectLine.{EffectLine}
use Rattle.ql_effect_lines.specs.EffectLine.{IsEffectLine}
use Rattle.ql_effect_lines.proofs.Lines.{no_effect_ends, one_effect}
use Rattle.ql_execution_files.specs.ExecutionFile.{end_fields}
use Rattle.ql_execution_files.specs.Grammar.{AreEffectLines}

-- the lines of effects, and then the end
abbrev pub AreEffectsThenEnd : ℕ → List (List ℕ) → List EffectLine → Type 0
AreEffectsThenEnd n [] es = ⊥
AreEffectsThenEnd n (l ∷ ls) [] = (fields_of l ≡ end_fields) × (ls ≡ [])
AreEffectsThenEnd n (l ∷ ls) (e ∷ es) = IsEffectLine l n e × AreEffectsThenEnd (suc n) ls es

no_end : (l : List ℕ) (n : ℕ) (e : EffectLine) → IsEffectLine l n e → fields_of l ≡ end_fields → ⊥
no_end l n e is end = no_effect_ends l n e is (codes "end") end

too_long : (ls : List (List ℕ)) (l : List ℕ) (more : List (List ℕ)) → ls ++ l ∷ more ≡ [] → ⊥
too_long ls l more none = omega (arith, ap length none, length-append ls (l ∷ more))

-- ---- the end

pub with_end : (n : ℕ) (ls : List (List ℕ)) (l : List ℕ) (es : List EffectLine) → AreEffectLines n ls es → fields_of l ≡ end_fields → AreEffectsThenEnd n (ls ++ l ∷ []) es
with_end n [] l [] are is = (is, refl)
with_end n [] l (e ∷ es) are is = absurd are
with_end n (k ∷ ls) l [] are is = absurd are
with_end n (k ∷ ls) l (e ∷ es) are is = (are.0, with_end (suc n) ls l es are.1 is)

pub record Ending (n : ℕ) (ls : List (List ℕ)) (es : List EffectLine) : Type 0 where
  pub others : List (List ℕ)
  pub last : List ℕ
  pub are : ls ≡ others ++ last ∷ []
  pub spelled : AreEffectLines n others es
  pub ends : fields_of last ≡ end_fields

pub ending : (n : ℕ) (ls : List (List ℕ)) (es : List EffectLine) → AreEffectsThenEnd n ls es → Ending n ls es
ending n [] es h = absurd h
ending n (l ∷ ls) [] h = record { others = []; last = l; are = ap (λ ks. l ∷ ks) h.1; spelled = tt; ends = h.0 }
ending n (l ∷ ls) (e ∷ es) h =
    let rest = ending (suc n) ls es h.1 in
    record { others = l ∷ rest.others; last = rest.last; are = ap (λ ks. l ∷ ks) rest.are; spelled = (h.0, rest.spelled); ends = rest.ends }

-- lines without their end
pub without_end : (n : ℕ) (ls : List (List ℕ)) (l : List ℕ) (es : List EffectLine) → AreEffectsThenEnd n (ls ++ l ∷ []) es → fields_of l ≡ end_fields → AreEffectLines n ls es
without_end n [] l [] h is = tt
without_end n [] l (e ∷ es) h is = absurd (no_end l n e h.0 is)
without_end n (k ∷ ls) l [] h is = absurd (too_long ls l [] h.1)
without_end n (k ∷ ls) l (e ∷ es) h is = (h.0, without_end (suc n) ls l es h.1 is)

-- ---- one list of effects

pub one_list : (n : ℕ) (ls : List (List ℕ)) (es us : List EffectLine) → AreEffectLines n ls es → AreEffectLines n ls us → es ≡ us
one_list n [] [] [] p q = refl
one_list n [] [] (u ∷ us) p q = absurd q
one_list n [] (e ∷ es) us p q = absurd p
one_list n (l ∷ ls) [] us p q = absurd p
one_list n (l ∷ ls) (e ∷ es) [] p q = absurd q
one_list n (l ∷ ls) (e ∷ es) (u ∷ us) p q = both e u es us (one_effect l n e u p.0 q.0) (one_list (suc n) ls es us p.1 q.1)

pub one_whole : (n : ℕ) (ls : List (List ℕ)) (es us : List EffectLine) → AreEffectsThenEnd n ls es → AreEffectsThenEnd n ls us → es ≡ us
one_whole n [] es us p q = absurd p
one_whole n (l ∷ ls) [] [] p q = refl
one_whole n (l ∷ ls) [] (u ∷ us) p q = absurd (no_end l n u q.0 p.0)
one_whole n (l ∷ ls) (e ∷ es) [] p q = absurd (no_end l n e p.0 q.0)
one_whole n (l ∷ ls) (e ∷ es) (u ∷ us) p q = both e u es us (one_effect l n e u p.0 q.0) (one_whole (suc n) ls es us p.1 q.1)

-- lines of effects lack their end
pub no_whole : (n : ℕ) (ls : List (List ℕ)) (es us : List EffectLine) → AreEffectLines n ls es → AreEffectsThenEnd n ls us → ⊥
no_whole n [] es us p q = q
no_whole n (l ∷ ls) [] us p q = p
no_whole n (l ∷ ls) (e ∷ es) [] p q = no_end l n e p.0 q.0
no_whole n (l ∷ ls) (e ∷ es) (u ∷ us) p q = no_whole (suc n) ls es us p.1 q.1

-- nothing comes after the end
pub nothing_after : (n : ℕ) (ls : List (List ℕ)) (l : List ℕ) (more : List (List ℕ)) (es us : List EffectLine) → AreEffectsThenEnd n ls es → AreEffectsThenEnd n (ls ++ l ∷ more) us → ⊥
nothing_after n [] l more es us p q = p
nothing_after n (k ∷ ls) l more [] [] p q = too_long ls l more q.1
nothing_after n (k ∷ ls) l more [] (u ∷ us) p q = no_end k n u q.0 p.0
nothing_after n (k ∷ ls) l more (e ∷ es) [] p q = no_end k n e p.0 q.0
nothing_after n (k ∷ ls) l more (e ∷ es) (u ∷ us) p q = nothing_after (suc n) ls l more es us p.1 q.1

-- ---- one line more

pub line_more : (n : ℕ) (ls : List (List ℕ)) (l : List ℕ) (es : List EffectLine) (e : EffectLine) → AreEffectLines n ls es → IsEffectLine l (n + length es) e → AreEffectLines n (ls ++ l ∷ []) (es ++ e ∷ [])
line_more n [] l [] e are is = (subst (λ (k : ℕ). IsEffectLine l k e) (omega arith) is, tt)
line_more n [] l (f ∷ es) e are is = absurd are
line_more n (k ∷ ls) l [] e are is = absurd are
line_more n (k ∷ ls) l (f ∷ es) e are is = (are.0, line_more (suc n) ls l es e are.1 (subst (λ (k : ℕ). IsEffectLine l k e) (omega arith) is))

pub none_left : (n : ℕ) (es : List EffectLine) (e : EffectLine) → AreEffectLines n [] (es ++ e ∷ []) → ⊥
none_left n [] e h = h
none_left n (f ∷ es) e h = h

none_said : (n : ℕ) (ls : List (List ℕ)) (l : List ℕ) → AreEffectLines n (ls ++ l ∷ []) [] → ⊥
none_said n [] l h = h
none_said n (k ∷ ls) l h = h

pub last_line : (n : ℕ) (ls : List (List ℕ)) (l : List ℕ) (es us : List EffectLine) (u : EffectLine) → AreEffectLines n ls es → AreEffectLines n (ls ++ l ∷ []) (us ++ u ∷ [])
    → (es ≡ us) × IsEffectLine l (n + length es) u
last_line n [] l [] [] u p q = (refl, subst (λ (k : ℕ). IsEffectLine l k u) (omega arith) q.0)
last_line n [] l [] (v ∷ us) u p q = absurd (none_left (suc n) us u q.1)
last_line n [] l (e ∷ es) us u p q = absurd p
last_line n (k ∷ ls) l [] us u p q = absurd p
last_line n (k ∷ ls) l (e ∷ es) [] u p q = absurd (none_said (suc n) ls l q.1)
last_line n (k ∷ ls) l (e ∷ es) (v ∷ us) u p q =
    let rest = last_line (suc n) ls l es us u p.1 q.1 in
    (both e v es us (one_effect k n e v p.0 q.0) rest.0, subst (λ (k : ℕ). IsEffectLine l k u) (omega arith) rest.1)

-- what comes after the lines of effects is the end, or one more effect
pub next : (n : ℕ) (ls : List (List ℕ)) (l : List ℕ) (more : List (List ℕ)) (es us : List EffectLine) → AreEffectLines n ls es → AreEffectsThenEnd n (ls ++ l ∷ more) us
    → (fields_of l ≡ end_fields) ⊎ ((u : EffectLine) × IsEffectLine l (n + length es) u)
next n [] l more [] [] p q = inl q.0
next n [] l more [] (u ∷ us) p q = inr (u, subst (λ (k : ℕ). IsEffectLine l k u) (omega arith) q.0)
next n [] l more (e ∷ es) us p q = absurd p
next n (k ∷ ls) l more [] us p q = absurd p
next n (k ∷ ls) l more (e ∷ es) [] p q = absurd (no_end k n e p.0 q.0)
next n (k ∷ ls) l more (e ∷ es) (u ∷ us) p q = elim (next (suc n) ls l more es us p.1 q.1) [
  | inl end ↦ inl end
  | inr one ↦ inr (one.0, subst (λ (k : ℕ). IsEffectLine l k one.0) (omega arith) one.1)
]

-- ---- beginnings

-- the first of some effects, and the others
pub record Parted (n : ℕ) (ls : List (List ℕ)) (us : List EffectLine) : Type 0 where
  pub first : List EffectLine
  pub second : List EffectLine
  pub are : us ≡ first ++ second
  pub lines : AreEffectLines n ls first

none_there : (ls more : List (List ℕ)) → ls ++ more ≡ [] → ls ≡ []
none_there [] more none = refl
none_there (l ∷ ls) more none = absurd (omega (arith, ap length none))

-- lines that begin those of effects and the end are those of the first effects, or all
pub parted : (n : ℕ) (ls more : List (List ℕ)) (us : List EffectLine) → AreEffectsThenEnd n (ls ++ more) us → Parted n ls us ⊎ AreEffectsThenEnd n ls us
parted n [] more us h = inl (record { first = []; second = us; are = refl; lines = tt })
parted n (l ∷ ls) more [] h = inr (h.0, none_there ls more h.1)
parted n (l ∷ ls) more (u ∷ us) h = elim (parted (suc n) ls more us h.1) [
  | inl p ↦ inl (record { first = u ∷ p.first; second = p.second; are = ap (λ vs. u ∷ vs) p.are; lines = (h.0, p.lines) })
  | inr w ↦ inr (h.0, w)
]

-- ---- what effects see

abbrev pub AscendInEach : List EffectLine → Type 0
AscendInEach es = AllByRecursion (λ (e : EffectLine). IsAscending e.setting.seen) es

pub ascending : (n : ℕ) (ls : List (List ℕ)) (es : List EffectLine) → AreEffectLines n ls es → AscendInEach es
ascending n [] [] h = tt
ascending n [] (e ∷ es) h = absurd h
ascending n (l ∷ ls) [] h = absurd h
ascending n (l ∷ ls) (e ∷ es) h = (h.0.setting.ascending, ascending (suc n) ls es h.1)

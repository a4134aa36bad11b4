-- Sections that stand one after another, with a blank line between them.
use Rattle.std.proofs.Common.{◌≡◌, ℕ, zero, suc, ◌+◌, ◌<◌, ◌≤◌, List, [], ◌∷◌, ◌++◌, length, take, Some, slice_get, refl, sym, ap, subst, ◌∙◌, append_assoc, arith}
use Rattle.std.specs.Prelude.{codes}
use Rattle.std.proofs.lemmas.List.{append-nil, take_all}
use Rattle.std.proofs.lemmas.Option.{same_Some}
use Rattle.ql_classify.specs.declared.finding.Finding.{Finding}
use Rattle.ql_lang.specs.declared.program.Program.{Program}
use Rattle.ql_why.proofs.Turns.{turn_more}
use Rattle.ql_why.specs.Why.{Appended}
use Rattle.ql_explanation.specs.Explanation.{AreSections, IsNextSection, IsTargetSection}

module _ (source : List ℕ) (p : Program) where
  pub section_more : (findings : List Finding) (k : ℕ) (f : Finding) (old gapped new : List ℕ) → slice_get findings k ≡ Some f → AreSections source p (take k findings) old
      → (k ≡ 0 → gapped ≡ old) → (0 < k → gapped ≡ old ++ codes "\n") → Appended (IsTargetSection source p f) gapped new → AreSections source p (take (k + 1) findings) new
  section_more [] k f old gapped new at are first others told = absurd (cc)
  section_more (g ∷ findings) zero f old gapped new at none first others (section, is, e) = (
    section,
    [],
    subst (λ h. IsTargetSection source p h section) (sym (same_Some g f at)) is,
    refl,
    e ∙ ap (λ z. z ++ section) (first refl ∙ none) ∙ sym (append-nil section),
  )
  section_more (g ∷ findings) (suc k) f old gapped new at (one, more, here, turn, whole) first others (section, is, e) =
      let next : suc (k + 1) ≡ suc k + 1 = omega arith in
      subst (λ n. AreSections source p (take n (g ∷ findings)) new) next (
        one,
        more ++ (codes "\n" ++ section),
        here,
        turn_more (IsNextSection source p) findings k f more (more ++ (codes "\n" ++ section)) at turn (codes "\n" ++ section, (section, is, refl), refl),
        e ∙ ap (λ z. z ++ section) (others (omega arith) ∙ ap (λ z. z ++ codes "\n") whole) ∙ simp append_assoc,
      )

  pub section_all : (findings : List Finding) (k : ℕ) (text : List ℕ) → length findings ≤ k → AreSections source p (take k findings) text → AreSections source p findings text
  section_all findings k text past are = subst (λ fs. AreSections source p fs text) (take_all k findings past) are

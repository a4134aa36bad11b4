-- Texts that stand one after another.
use Rattle.std.proofs.Common.{◌≡◌, ℕ, ◌+◌, ◌≤◌, List, [], ◌∷◌, ◌++◌, length, take, Some, Result, Ok, Err, slice_get, refl, sym, ap, subst, ◌∙◌, append_assoc, arith}
use Rattle.std.specs.Prelude.{OnOk}
use Rattle.std.proofs.lemmas.List.{append-nil, take_all, take_more}
use Rattle.std.proofs.lemmas.Option.{get_or_from_slice_get, slice_get_within}
use Rattle.ql_classify.specs.Targets.{goals_below}
use Rattle.ql_ground.specs.declared.goal.Goal.{Goal}
use Rattle.ql_lang.specs.declared.program.Program.{Program}
use Rattle.ql_why.specs.Why.{Appended, InTurn, IsCounterText, IsStepText, ReportsTarget, target_line}
use Rattle.ql_why.proofs.Lower.{few_below}

module _ {X : Type 0} (Says : X → List ℕ → Type 0) where
  one-more : (xs : List X) (text : List ℕ) (x : X) (last : List ℕ) → InTurn Says xs text → Says x last → InTurn Says (xs ++ x ∷ []) (text ++ last)
  one-more [] text x last h says = (last, [], says, refl, ap (λ (z : List ℕ). z ++ last) h ∙ sym (append-nil last))
  one-more (y ∷ xs) text x last (first, others, here, rest, e) says =
      (first, others ++ last, here, one-more xs others x last rest says, ap (λ (z : List ℕ). z ++ last) e ∙ append_assoc first others last)

  pub turn_more : (xs : List X) (k : ℕ) (x : X) (old new : List ℕ) → slice_get xs k ≡ Some x → InTurn Says (take k xs) old → Appended (Says x) old new → InTurn Says (take (k + 1) xs) new
  turn_more xs k x old new at h (text, says, e) =
      let more : take (k + 1) xs ≡ take k xs ++ x ∷ [] = take_more xs k x (slice_get_within xs k x at) ∙ ap (λ y. take k xs ++ y ∷ []) (get_or_from_slice_get xs k x x at) in
      subst (λ (ys : List X). InTurn Says ys new) (sym more) (subst (InTurn Says (take k xs ++ x ∷ [])) (sym e) (one-more (take k xs) old x text h says))

  pub turn_all : (xs : List X) (k : ℕ) (text : List ℕ) → length xs ≤ k → InTurn Says (take k xs) text → InTurn Says xs text
  turn_all xs k text l h = subst (λ (ys : List X). InTurn Says ys text) (take_all k xs l) h

module _ (p : Program) where
  one-step : (goals : List Goal) (a : List ℕ) → length goals ≤ 1 → IsStepText p (slice_get goals 0) a → InTurn (IsCounterText p) goals a
  one-step [] a l none = none
  one-step (g ∷ []) a l first = (a, [], first, refl, sym (append-nil a))
  one-step (g ∷ h ∷ goals) a l first = absurd (omega (arith, l))

  two-steps : (goals : List Goal) (a b : List ℕ) → length goals ≤ 2 → IsStepText p (slice_get goals 0) a → IsStepText p (slice_get goals 1) b → InTurn (IsCounterText p) goals (a ++ b)
  two-steps [] a b l none more = ap (λ (z : List ℕ). z ++ b) none ∙ more
  two-steps (g ∷ goals) a b l first second = (a, b, first, one-step goals b (omega (arith, l)) second, refl)

  three-steps : (goals : List Goal) (a b c : List ℕ) → length goals ≤ 3 → IsStepText p (slice_get goals 0) a → IsStepText p (slice_get goals 1) b → IsStepText p (slice_get goals 2) c → InTurn (IsCounterText p) goals (a ++ (b ++ c))
  three-steps [] a b c l none more most = ap (λ (z : List ℕ). z ++ (b ++ c)) none ∙ ap (λ (z : List ℕ). z ++ c) more ∙ most
  three-steps (g ∷ goals) a b c l first second third = (a, b ++ c, first, two-steps goals b c (omega (arith, l)) second third, refl)

  pub target_reported : (g : Goal) (out lined first second last : List ℕ) → lined ≡ out ++ target_line p g
      → Appended (IsStepText p (slice_get (goals_below g) 0)) lined first → Appended (IsStepText p (slice_get (goals_below g) 1)) first second
      → Appended (IsStepText p (slice_get (goals_below g) 2)) second last → Appended (ReportsTarget p g) out last
  target_reported g out lined first second last line (a, lowest, e) (b, next, f) (c, highest, h) =
      let counters = a ++ (b ++ c) in (
        target_line p g ++ counters,
        (counters, three-steps (goals_below g) a b c (few_below g) lowest next highest, refl),
        h
            ∙ ap (λ (z : List ℕ). z ++ c) (f ∙ ap (λ (z : List ℕ). z ++ b) (e ∙ ap (λ (z : List ℕ). z ++ a) line))
            ∙ append_assoc ((out ++ target_line p g) ++ a) b c
            ∙ append_assoc (out ++ target_line p g) a (b ++ c)
            ∙ append_assoc out (target_line p g) counters,
      )

pub on_ok : {A E B C : Type 0} (r : Result A E) → (B → C) → OnOk r B → OnOk r C
on_ok (Ok x) f h = f h
on_ok (Err e) f h = tt

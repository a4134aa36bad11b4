-- Going up through goals: what satisfied the first ones, and what the next is.
use Rattle.std.proofs.Common.{◌≡◌, ℕ, zero, suc, ◌+◌, ◌<◌, Bool, List, [], ◌∷◌, ◌++◌, length, take, get_or, Option, Some, ◌≤◌, sym, subst, ◌∙◌, ap, arith, add-one}
use Rattle.std.specs.List.{AllZip}
use Rattle.std.specs.Prelude.{IfOk, Result, Ok, Err}
use Rattle.ql_ground.specs.declared.goal.Goal.{Goal}
use Rattle.ql_lang.specs.declared.program.Program.{Program}
use Rattle.ql_refute.specs.declared.refutation.Line.{Line}
use Rattle.ql_cnf.specs.Satisfaction.{ClauseList, IsUnsatisfiable}
use Rattle.ql_ground.specs.OfPrograms.{IsProblemOf, IsImplied}
use Rattle.ql_implication.proofs.OfPrograms.{problem_gives}
use Rattle.ql_refute.proofs.Soundness.{accepted_is_unsatisfiable}
use Rattle.ql_sat.specs.Answer.{HasNumbers, IsRight}
use Rattle.ql_sat.specs.declared.decided.Decided.{Decided}
use Rattle.ql_sat.specs.declared.decided.Decided.TheVariants.{Model, Refuted}
use Rattle.std.specs.Option.{option_to_list}
use Rattle.std.proofs.lemmas.List.{take_all}
use Rattle.ql_refute.specs.declared.refutation.Refutation.{Refutation}
use Rattle.ql_classify.specs.declared.evidence.Evidence.{Evidence}
use Rattle.ql_classify.specs.declared.evidence.Search.{Search}
use Rattle.ql_classify.specs.declared.evidence.Search.TheVariants as search
use Rattle.ql_classify.specs.Found.{IsAnswer, IsSearch}
use Rattle.ql_counter.specs.Countermodels.{IsSatisfiedBy}
use Rattle.ql_classify.specs.Goals.{IsEnough, IsFirstRefuted, IsLastSatisfied}

pub zip_push : {A B : Type 0} (R : A → B → Type 0) (xs : List A) (ys : List B) (x : A) (y : B) → AllZip R xs ys → R x y → AllZip R (xs ++ x ∷ []) (ys ++ y ∷ [])
zip_push R [] [] x y h r = (r, tt)
zip_push R [] (b ∷ ys) x y h r = absurd h
zip_push R (a ∷ xs) [] x y h r = absurd h
zip_push R (a ∷ xs) (b ∷ ys) x y h r = (h.0, zip_push R xs ys x y h.1 r)

pub zip_more : {A B : Type 0} (R : A → B → Type 0) (xs : List A) (ys : List B) (i : ℕ) (d : A) (y : B) → i < length xs → AllZip R (take i xs) ys → R (get_or xs i d) y → AllZip R (take (suc i) xs) (ys ++ y ∷ [])
zip_more R [] ys i d y l h r = absurd (omega arith)
zip_more R (x ∷ xs) [] zero d y l h r = (r, tt)
zip_more R (x ∷ xs) (b ∷ ys) zero d y l h r = absurd h
zip_more R (x ∷ xs) [] (suc i) d y l h r = absurd h
zip_more R (x ∷ xs) (b ∷ ys) (suc i) d y l h r = (h.0, zip_more R xs ys i d y (omega arith) h.1 r)

module _ (p : Program) where
  -- the next goal after those that were satisfied is refuted
  pub refuted_next : (goals : List Goal) (lower : List (List Bool)) (i : ℕ) (d : Goal) (lines : List Line) → i < length goals → AllZip (IsSatisfiedBy p) (take i goals) lower → IsEnough p (get_or goals i d) lines → IsFirstRefuted p goals lower lines
  refuted_next [] lower i d lines l h e = absurd (omega arith)
  refuted_next (g ∷ goals) [] zero d lines l h e = e
  refuted_next (g ∷ goals) (a ∷ lower) zero d lines l h e = absurd h
  refuted_next (g ∷ goals) [] (suc i) d lines l h e = absurd h
  refuted_next (g ∷ goals) (a ∷ lower) (suc i) d lines l h e = (h.0, refuted_next goals lower i d lines (omega arith) h.1 e)

  -- where all were satisfied the last one was
  pub satisfied_last : (goals : List Goal) (lower : List (List Bool)) (a : List Bool) → AllZip (IsSatisfiedBy p) goals (lower ++ a ∷ []) → IsLastSatisfied p goals a
  satisfied_last [] [] a h = absurd h
  satisfied_last [] (b ∷ lower) a h = absurd h
  satisfied_last (g ∷ []) [] a h = h.0
  satisfied_last (g ∷ next ∷ goals) [] a h = absurd h.1
  satisfied_last (g ∷ []) (b ∷ []) a h = absurd h.1
  satisfied_last (g ∷ []) (b ∷ c ∷ lower) a h = absurd h.1
  satisfied_last (g ∷ next ∷ goals) (b ∷ lower) a h = satisfied_last (next ∷ goals) lower a h.1

  -- what the solver answers for a goal's problem
  answered : (g : Goal) (c : ClauseList) (d : Decided) → IsProblemOf p g c → (IsUnsatisfiable c → IsImplied p g) → IsRight c d → HasNumbers d → IsAnswer p g d
  answered g c (Model a) is sound h numbers = (c, is, h)
  answered g c (Refuted r) is sound h numbers = ((c, is, h), numbers, problem_gives p g c is (sound (accepted_is_unsatisfiable c r.lines h)))

  pub all_answered : {E : Type 0} (g : Goal) (c : ClauseList) (found : Result Decided E) → IsProblemOf p g c → (IsUnsatisfiable c → IsImplied p g) → IfOk found (IsRight c) → IfOk found HasNumbers → IfOk found (IsAnswer p g)
  all_answered g c (Ok d) is sound h numbers = answered g c d is sound h numbers
  all_answered g c (Err e) is sound h numbers = tt

  -- an answer that refutes the next goal's problem
  pub refuted_answer : (goals : List Goal) (lower : List (List Bool)) (i : ℕ) (d g : Goal) (found : Decided) (r : Refutation) → i < length goals → AllZip (IsSatisfiedBy p) (take i goals) lower → g ≡ get_or goals i d → IsAnswer p g found → found ≡ Refuted r → IsFirstRefuted p goals lower r.lines
  refuted_answer goals lower i d g found r l h is e f =
      refuted_next goals lower i d r.lines l h (subst (λ z. IsEnough p z r.lines) is (subst (λ z. IsAnswer p g z) f e))

  -- and one that satisfies it
  pub satisfied_answer : (goals : List Goal) (lower now : List (List Bool)) (i : ℕ) (d g : Goal) (found : Decided) (a : List Bool) → i < length goals → AllZip (IsSatisfiedBy p) (take i goals) lower → g ≡ get_or goals i d → IsAnswer p g found → found ≡ Model a → now ≡ lower ++ a ∷ [] → AllZip (IsSatisfiedBy p) (take (i + 1) goals) now
  satisfied_answer goals lower now i d g found a l h is e f n =
      let front : take (suc i) goals ≡ take (i + 1) goals = ap (λ k. take k goals) (sym (add-one i)) in
      subst (λ z. AllZip (IsSatisfiedBy p) (take (i + 1) goals) z) (sym n)
      (subst (λ z. AllZip (IsSatisfiedBy p) z (lower ++ a ∷ [])) front
      (zip_more (IsSatisfiedBy p) goals lower i d a l h (subst (λ z. IsSatisfiedBy p z a) is (subst (λ z. IsAnswer p g z) f e))))

  -- the last of the assignments for all goals
  pub satisfied_all : (goals : List Goal) (lower init : List (List Bool)) (i : ℕ) (popped : Option (List Bool)) (a : List Bool) → length goals ≤ i → AllZip (IsSatisfiedBy p) (take i goals) lower → lower ≡ init ++ option_to_list popped → popped ≡ Some a → IsLastSatisfied p goals a
  satisfied_all goals lower init i popped a l h is e =
      let list : lower ≡ init ++ a ∷ [] = is ∙ ap (λ o. init ++ option_to_list o) e in
      satisfied_last goals init a (subst (λ z. AllZip (IsSatisfiedBy p) z (init ++ a ∷ [])) (take_all i goals l) (subst (λ z. AllZip (IsSatisfiedBy p) (take i goals) z) list h))

  -- a search that found a refutation
  pub search_refuted : (goals : List Goal) (found : Search) (e : Evidence) → IsSearch p goals found → found ≡ search.Refuted e → IsFirstRefuted p goals e.lower.items e.refutation.lines
  search_refuted goals found e h f = subst (λ z. IsSearch p goals z) f h

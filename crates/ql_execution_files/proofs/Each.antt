-- What is true of each of a list, and of the one that is found.
use Rattle.std.proofs.Common.{◌≡◌, Bool, true, false, List, [], ◌∷◌, ◌++◌, None, Some, refl, subst}
use Rattle.std.specs.Prelude.{cond}
use Rattle.std.specs.List.{AllByRecursion, find}
use Rattle.std.proofs.lemmas.Option.{same_Some}

module _ {X : Type 0} where
  pub all_more : (P : X → Type 0) (xs ys : List X) → AllByRecursion P xs → AllByRecursion P ys → AllByRecursion P (xs ++ ys)
  all_more P [] ys p q = q
  all_more P (x ∷ xs) ys p q = (p.0, all_more P xs ys p.1 q)

  pub all_first : (P : X → Type 0) (xs ys : List X) → AllByRecursion P (xs ++ ys) → AllByRecursion P xs
  all_first P [] ys p = tt
  all_first P (x ∷ xs) ys p = (p.0, all_first P xs ys p.1)

  pub one_there : (P : X → Type 0) (xs : List X) (y : X) (ys : List X) → AllByRecursion P (xs ++ y ∷ ys) → P y
  one_there P [] y ys p = p.0
  one_there P (x ∷ xs) y ys p = one_there P xs y ys p.1

  pub all_as : (P Q : X → Type 0) → ((x : X) → P x → Q x) → (xs : List X) → AllByRecursion P xs → AllByRecursion Q xs
  all_as P Q on [] p = tt
  all_as P Q on (x ∷ xs) p = (on x p.0, all_as P Q on xs p.1)

  pub found_one : (test : X → Bool) (P : X → Type 0) (xs : List X) (x : X) → find test xs ≡ Some x → AllByRecursion P xs → (test x ≡ true) × P x
  found_one test P [] x is all = absurd cc
  found_one test P (y ∷ ys) x is all =
      let Q : Bool → Type 0 = λ t. test y ≡ t → cond t (Some y) (find test ys) ≡ Some x → (test x ≡ true) × P x in
      elim (test y) as Q [
        | true ↦ λ passes h. subst (λ z. (test z ≡ true) × P z) (same_Some y x h) (passes, all.0)
        | false ↦ λ other h. found_one test P ys x h all.1
      ] refl is

  pub found_none : (test : X → Bool) (xs : List X) → find test xs ≡ None → AllByRecursion (λ x. test x ≡ false) xs
  found_none test [] is = tt
  found_none test (y ∷ ys) is =
      let Q : Bool → Type 0 = λ t. test y ≡ t → cond t (Some y) (find test ys) ≡ None → AllByRecursion (λ x. test x ≡ false) (y ∷ ys) in
      elim (test y) as Q [
        | true ↦ λ passes h. absurd (let never : Some y ≡ None = h in cc)
        | false ↦ λ other h. (other, found_none test ys h)
      ] refl is

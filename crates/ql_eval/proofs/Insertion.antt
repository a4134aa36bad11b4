-- A stable sort of a list without ties is the list that insertion from its last element on makes.
use Rattle.std.proofs.Common.{◌≡◌, Bool, true, false, not, cond, List, [], ◌∷◌, ◌++◌, All, filter, get_or, refl, sym, ap, ◌∙◌}
use Rattle.std.specs.Cmp.{IsStrictWeakOrder}
use Rattle.std.specs.List.Sorted.{IsSortedBy, IsStableBy, ties}
use Rattle.std.proofs.lemmas.List.{append-nil}
use Rattle.ql_eval.proofs.StableOrder.{Rises, both, denied, none_pass, one_order, put, put_rises, put_ties, rises}

module _ {X : Type 0} (lt : X → X → Bool) where
  -- insertion from the last on
  abbrev pub inserted : List X → List X
  inserted [] = []
  inserted (x ∷ xs) = put lt x (inserted xs)

  -- no element ties with a later one
  abbrev pub Apart : List X → Type 0
  Apart [] = Unit {0}
  Apart (x ∷ xs) = All (λ z. ties lt x z ≡ false) xs × Apart xs

module _ {X : Type 0} (lt : X → X → Bool) (o : IsStrictWeakOrder lt) where
  inserted_rises : (xs : List X) → Rises lt (inserted lt xs)
  inserted_rises [] = tt
  inserted_rises (x ∷ xs) = put_rises lt o x (inserted lt xs) (inserted_rises xs)

  tied_to_both : (w x z : X) → ties lt w x ≡ true → ties lt w z ≡ true → ties lt x z ≡ true
  tied_to_both w x z first second =
      let a = both (not (lt w x)) (not (lt x w)) first in
      let b = both (not (lt w z)) (not (lt z w)) second in
      rw (o.chain x w z (denied (lt x w) a.1) (denied (lt w z) b.0), o.chain z w x (denied (lt z w) b.1) (denied (lt w x) a.0)) refl

  tied_to_one : (w x z : X) → ties lt w x ≡ true → ties lt x z ≡ false → ties lt w z ≡ false
  tied_to_one w x z first apart = by (ties lt w z) refl
    where
      by : (b : Bool) → ties lt w z ≡ b → ties lt w z ≡ false
      by false h = h
      by true h =
          let no : true ≡ false = sym (tied_to_both w x z first h) ∙ apart in
          absurd cc

  inserted_ties : (w : X) (xs : List X) → Apart lt xs → filter (ties lt w) (inserted lt xs) ≡ filter (ties lt w) xs
  inserted_ties w [] apart = refl
  inserted_ties w (x ∷ xs) apart =
      put_ties lt o w x (inserted lt xs) (inserted_rises xs) ∙ ap (λ ys. ys ++ filter (ties lt w) (x ∷ [])) (inserted_ties w xs apart.1) ∙ by (ties lt w x) refl
    where
      by : (b : Bool) → ties lt w x ≡ b → filter (ties lt w) xs ++ cond b (x ∷ []) [] ≡ cond b (x ∷ filter (ties lt w) xs) (filter (ties lt w) xs)
      by false e = append-nil (filter (ties lt w) xs)
      by true e =
          let none : filter (ties lt w) xs ≡ [] = none_pass (ties lt w) xs (λ k d below. tied_to_one w x (get_or xs k d) e (apart.0 k d below)) in
          rw none refl

  pub sorted_is : (xs ys : List X) → Apart lt xs → IsSortedBy lt ys → IsStableBy lt xs ys → ys ≡ inserted lt xs
  sorted_is xs ys apart up stable = one_order lt o ys (inserted lt xs) (rises lt o ys up) (inserted_rises xs) (λ w. stable w ∙ sym (inserted_ties w xs apart))

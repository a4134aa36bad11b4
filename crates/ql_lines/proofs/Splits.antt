-- a list cut at the elements that pass a test
use Rattle.std.proofs.Common.{◌≡◌, ◌+◌, ℕ, Bool, true, false, List, [], ◌∷◌, ◌++◌, length, arith, refl, ◌∙◌}
use Rattle.std.specs.List.{AllByRecursion, position_or_len, slice_split}
use Rattle.std.proofs.lemmas.List.Splits.{slice_split-cons_no, slice_split-cons_yes}

module _ (p : ℕ → Bool) where
  pub none_passes : (xs : List ℕ) → position_or_len p xs ≡ length xs → slice_split p xs ≡ xs ∷ []
  none_passes [] e = refl
  none_passes (x ∷ xs) e =
      let P : Bool → Type 0 = λ t. p x ≡ t → slice_split p (x ∷ xs) ≡ (x ∷ xs) ∷ [] in
      elim (p x) as P [
        | true ↦ λ is. absurd (let h : position_or_len p (x ∷ xs) ≡ 0 = rw is refl in omega (arith, h, e))
        | false ↦ λ is.
            let h : position_or_len p (x ∷ xs) ≡ 1 + position_or_len p xs = rw is refl in
            slice_split-cons_no p x xs is ∙ rw (none_passes xs (omega (arith, h, e))) refl
      ] refl

  pub some_part : (xs : List ℕ) → (y : List ℕ) × (ys : List (List ℕ)) × (slice_split p xs ≡ y ∷ ys)
  some_part [] = ([], [], refl)
  some_part (x ∷ xs) =
      let P : Bool → Type 0 = λ t. p x ≡ t → (y : List ℕ) × (ys : List (List ℕ)) × (slice_split p (x ∷ xs) ≡ y ∷ ys) in
      let rest = some_part xs in
      elim (p x) as P [
        | true ↦ λ is. ([], slice_split p xs, slice_split-cons_yes p x xs is)
        | false ↦ λ is. (x ∷ rest.0, rest.1, slice_split-cons_no p x xs is ∙ rw rest.2 refl)
      ] refl

  -- a part goes up to the first element that passes
  pub part_before : (xs : List ℕ) (y : ℕ) (ys : List ℕ) → AllByRecursion (λ x. p x ≡ false) xs → p y ≡ true → slice_split p (xs ++ y ∷ ys) ≡ xs ∷ slice_split p ys
  part_before [] y ys none passes = slice_split-cons_yes p y ys passes
  part_before (x ∷ xs) y ys none passes = slice_split-cons_no p x (xs ++ y ∷ ys) none.0 ∙ rw (part_before xs y ys none.1 passes) refl

  pub whole_part : (xs : List ℕ) → AllByRecursion (λ x. p x ≡ false) xs → slice_split p xs ≡ xs ∷ []
  whole_part [] none = refl
  whole_part (x ∷ xs) none = slice_split-cons_no p x xs none.0 ∙ rw (whole_part xs none.1) refl

-- A name that stands in distinct names has its index there as its number.
use Rattle.std.proofs.Common.{◌≡◌, ◌<◌, ℕ, true, false, List, [], length, get_or, Some, refl, sym, ap, ◌∙◌, arith, lt-ltb}
use Rattle.std.specs.Prelude.{unwrap_or}
use Rattle.std.specs.List.{IsDistinct, position_or_len, slice_get}
use Rattle.std.specs.Str.{bytes_eq}
use Rattle.std.proofs.lemmas.Slice.Eq.{bytes_eq-Decides}
use Rattle.std.proofs.lemmas.Bool.{both_ways, false_from_ne_true}
use Rattle.std.proofs.lemmas.List.Folds.{list_any_at}
use Rattle.std.proofs.lemmas.List.Sums.{position_or_len_is}
use Rattle.std.proofs.lemmas.Map.Keys.{apart_from_distinct}
use Rattle.std.proofs.lemmas.Option.{get_or_from_slice_get, slice_get_within}
use Rattle.ql_base.specs.Numbering.{place, with_name}
use Rattle.ql_holds_files.specs.EffectLine.{number_among}

module _ (names : List (List ℕ)) (w : List ℕ) (k : ℕ) (at : slice_get names k ≡ Some w) where
  inside : k < length names
  inside = slice_get_within names k w at

  here : bytes_eq w (get_or names k []) ≡ true
  here = (bytes_eq-Decides w (get_or names k [])).1 (sym (get_or_from_slice_get names k w [] at))

  -- it isn't put in again
  pub known_name : with_name names w ≡ names
  known_name = rw (list_any_at (bytes_eq w) names k [] inside here) refl

  apart : IsDistinct bytes_eq names → (j : ℕ) → j < k → bytes_eq w (get_or names j []) ≡ false
  apart distinct j less = false_from_ne_true (bytes_eq w (get_or names j [])) (λ same.
      let is_w = get_or_from_slice_get names k w [] at in
      let equal = (bytes_eq-Decides w (get_or names j [])).0 same in
      both_ways (bytes_eq (get_or names j []) (get_or names k [])) (apart_from_distinct bytes_eq names j k [] distinct less inside)
      ((bytes_eq-Decides (get_or names j []) (get_or names k [])).1 (sym equal ∙ sym is_w)))

  pub known_number : IsDistinct bytes_eq names → number_among names w ≡ k
  known_number distinct =
      let first : position_or_len (bytes_eq w) names ≡ k = position_or_len_is (bytes_eq w) names k [] (omega (arith, inside)) (apart distinct) (λ _. here) in
      ap (λ (l : List (List ℕ)). unwrap_or (place l w) 0) known_name ∙ rw first (rw (lt-ltb k (length names) inside) refl)

-- What is found in a list, and facts of all items of it.
use Rattle.std.proofs.Common.{◌≡◌, ℕ, zero, suc, ◌<◌, ◌≤◌, cond, Bool, true, false, ◌||◌, inl, inr, List, [], ◌∷◌, ◌++◌, Option, None, Some, length, nat_lt, refl, subst, ap, ◌∙◌, arith, ltb-false}
use Rattle.std.specs.List.{All, list_any, position, position_or_len, slice_get}
use Rattle.std.proofs.lemmas.Bool.{both_ways, cases_lt}
use Rattle.std.proofs.lemmas.List.Elements.{All-nil, All-cons, All-head, All-tail}
use Rattle.std.proofs.lemmas.List.Folds.{list_any_none}
use Rattle.std.proofs.lemmas.List.Sums.{fails_before_first}
use Rattle.std.proofs.lemmas.Option.{slice_get_within, get_or_from_slice_get}
use Rattle.ql_base.specs.Ranges.{upto}

pub or_left : (a b : Bool) → (a || b) ≡ false → a ≡ false
or_left false b h = refl
or_left true b h = h

pub or_right : (a b : Bool) → (a || b) ≡ false → b ≡ false
or_right false b h = h
or_right true b h = absurd (both_ways true h refl)

or_true : (b : Bool) → (b || true) ≡ true
or_true true = refl
or_true false = refl

module _ {X : Type 0} (p : X → Bool) where
  pub any_at : (xs : List X) (k : ℕ) (x : X) → slice_get xs k ≡ Some x → p x ≡ true → list_any p xs ≡ true
  any_at [] k x is h =
      let no : ⊥ = cc in
      absurd no
  any_at (y ∷ ys) zero x is h =
      let same : y ≡ x = cc in
      ap (λ b. b || list_any p ys) (ap p same ∙ h)
  any_at (y ∷ ys) (suc k) x is h = ap (λ b. p y || b) (any_at ys k x is h) ∙ or_true (p y)

  pub any_found : (xs : List X) → list_any p xs ≡ true → (k : ℕ) × (x : X) × (slice_get xs k ≡ Some x) × (p x ≡ true)
  any_found [] h = absurd (both_ways false refl h)
  any_found (x ∷ xs) h = by (λ g. any_found xs g) (p x) refl h
    where
      by : (list_any p xs ≡ true → (k : ℕ) × (y : _) × (slice_get xs k ≡ Some y) × (p y ≡ true)) → (b : Bool) → p x ≡ b → (b || list_any p xs) ≡ true → (k : ℕ) × (y : _) × (slice_get (x ∷ xs) k ≡ Some y) × (p y ≡ true)
      by rest true e g = (0, x, refl, e)
      by rest false e g =
          let later = rest g in
          (suc later.0, later.1, later.2, later.3)

  -- what passes stands at a first place
  pub place_found : (xs : List X) → list_any p xs ≡ true → (k : ℕ) × (position p xs ≡ Some k)
  place_found xs h = by (position p xs) refl
    where
      at : ℕ
      at = position_or_len p xs

      none : (b : Bool) → nat_lt at (length xs) ≡ b → cond b (Some at) None ≡ None → length xs ≤ at
      none true e g = cc
      none false e g = ltb-false _ _ e

      by : (r : Option ℕ) → position p xs ≡ r → (k : ℕ) × (position p xs ≡ Some k)
      by None e =
          absurd (both_ways (list_any p xs) (list_any_none p xs (λ k d below. fails_before_first p xs k d (omega (arith, none (nat_lt at (length xs)) refl e, below)))) h)
      by (Some k) e = (k, e)

module _ {X : Type 0} (P : X → Type 0) where
  pub all_at : (xs : List X) (k : ℕ) (x : X) → All P xs → slice_get xs k ≡ Some x → P x
  all_at xs k x h is = subst P (get_or_from_slice_get xs k x x is) (h k x (slice_get_within xs k x is))

  pub all_front : (xs ys : List X) → All P (xs ++ ys) → All P xs
  all_front [] ys h = All-nil P
  all_front (x ∷ xs) ys h = All-cons P x xs (All-head P x (xs ++ ys) h) (all_front xs ys (All-tail P x (xs ++ ys) h))

  pub all_behind : (xs ys : List X) → All P (xs ++ ys) → All P ys
  all_behind [] ys h = h
  all_behind (x ∷ xs) ys h = all_behind xs ys (All-tail P x (xs ++ ys) h)

  pub all_of : (n k : ℕ) (f : ℕ → List X) → All P (upto n f) → k < n → All P (f k)
  all_of zero k f h l = absurd (omega (arith, l))
  all_of (suc n) k f h l = elim (cases_lt k n) [
    | inl less ↦ all_of n k f (all_front (upto n f) (f n) h) less
    | inr more ↦
        let same : n ≡ k = omega (arith, l, more) in
        subst (λ z. All P (f z)) same (all_behind (upto n f) (f n) h)
  ]

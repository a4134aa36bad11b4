-- a search for a byte answers how many stand before it
use Rattle.std.proofs.Common.{◌≡◌, ℕ, Bool, true, false, List, None, Some, length, get_or, arith, refl}
use Rattle.std.specs.List.{position_or_len}
use Rattle.std.proofs.lemmas.List.Sums.{position_or_len_is}
use Rattle.memchr.specs.Find.{IsFirstByte}

module _ (p : ℕ → Bool) (xs : List ℕ) where
  fails : (b : Bool) → (b ≡ true → ⊥) → b ≡ false
  fails true none = absurd (none refl)
  fails false none = refl

  pub found_at : (k : ℕ) → IsFirstByte p xs (Some k) → position_or_len p xs ≡ k
  found_at k h = position_or_len_is p xs k 0 (omega (arith, h.0.high)) (λ j lt. fails (p (get_or xs j 0)) (h.0.before j (omega arith) lt)) (λ lt. h.1)

  pub found_nowhere : IsFirstByte p xs None → position_or_len p xs ≡ length xs
  found_nowhere h = position_or_len_is p xs (length xs) 0 (omega arith) (λ j lt. fails (p (get_or xs j 0)) (h j (omega arith) lt)) (λ lt. absurd (omega (arith, lt)))

-- two lists compared item by item
use Rattle.std.proofs.Common.{◌≡◌, ℕ, zero, suc, List, [], ◌∷◌, length, drop, min, arith, refl, ◌∙◌}
use Rattle.std.specs.Ordering.{nat_cmp}
use Rattle.std.specs.Cmp.Lexicographic.{slice_cmp}
use Rattle.std.specs.declared.cmp.Ordering.{Ordering}
use Rattle.std.specs.declared.cmp.Ordering.TheVariants.{Less, Greater}
use Rattle.std.proofs.lemmas.Bool.Decides.{nat_tests}

nat_cmp-suc : (m n : ℕ) → nat_cmp m n ≡ nat_cmp (suc m) (suc n)
nat_cmp-suc m n = grind (arith, nat_tests)

less_zero : (n : ℕ) → Less ≡ nat_cmp 0 (suc n)
less_zero n = grind (arith, nat_tests)

greater_zero : (n : ℕ) → Greater ≡ nat_cmp (suc n) 0
greater_zero n = grind (arith, nat_tests)

module _ {X : Type 0} (R : X → X → Ordering) where
  -- what is left when one list is at its end
  pub at_end : (a b : List X) (k : ℕ) → k ≡ min (length a) (length b) → slice_cmp R (drop k a) (drop k b) ≡ nat_cmp (length a) (length b)
  at_end [] [] zero e = refl
  at_end [] [] (suc k) e = refl
  at_end [] (b ∷ bs) zero e = less_zero (length bs)
  at_end [] (b ∷ bs) (suc k) e = absurd (omega arith)
  at_end (a ∷ ys) [] zero e = greater_zero (length ys)
  at_end (a ∷ ys) [] (suc k) e = absurd (omega arith)
  at_end (a ∷ ys) (b ∷ bs) zero e = absurd (omega arith)
  at_end (a ∷ ys) (b ∷ bs) (suc k) e = at_end ys bs k (omega arith) ∙ nat_cmp-suc (length ys) (length bs)

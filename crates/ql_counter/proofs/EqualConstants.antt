-- Least numbers that pass a test, and the classes that they name.
use Rattle.std.proofs.Common.{◌≡◌, ℕ, zero, suc, ◌<◌, ◌≤◌, Bool, true, false, cond, refl, sym, ap, ◌∙◌, inl, inr, arith}
use Rattle.std.proofs.lemmas.Bool.{cases_Bool, both_ways}
use Rattle.ql_counter.specs.Patterns.{least, class_of}

-- one truth value, where each gives the other
pub one_value : (a b : Bool) → (a ≡ true → b ≡ true) → (b ≡ true → a ≡ true) → a ≡ b
one_value true b h g = sym (h refl)
one_value false true h g = g refl
one_value false false h g = refl

-- what passes is not before the least that does, which passes
pub least-found : (n : ℕ) (test : ℕ → Bool) (k : ℕ) → k < n → test k ≡ true → (least n test ≤ k) × (test (least n test) ≡ true)
least-found zero test k l h = absurd (omega arith)
least-found (suc n) test k l h = elim (cases_Bool (test zero)) [
  | inl here ↦ rw here (omega arith, here)
  | inr later ↦ rw later (rest (least-found n (λ j. test (suc j))) k l h later)
]
  where
    rest : ((j : ℕ) → j < n → test (suc j) ≡ true → (least n (λ j. test (suc j)) ≤ j) × (test (suc (least n (λ j. test (suc j)))) ≡ true)) → (k : ℕ) → k < suc n → test k ≡ true → test zero ≡ false → (suc (least n (λ j. test (suc j))) ≤ k) × (test (suc (least n (λ j. test (suc j)))) ≡ true)
    rest lower zero l h later = absurd (both_ways _ later h)
    rest lower (suc k) l h later =
        let found = lower k (omega (arith, l)) h in
        let less = found.0 in
        (omega (arith, less), found.1)

-- nothing before it passes
pub least-before : (n : ℕ) (test : ℕ → Bool) (k : ℕ) → k < least n test → test k ≡ false
least-before zero test k l = absurd (omega (arith, l))
least-before (suc n) test k l = elim (cases_Bool (test zero)) [
  | inl here ↦ absurd (none (least n (λ j. test (suc j))) here l)
  | inr later ↦ earlier (least-before n (λ j. test (suc j))) k later l
]
  where
    none : (m : ℕ) → test zero ≡ true → k < cond (test zero) zero (suc m) → ⊥
    none m here l = let e : cond (test zero) zero (suc m) ≡ zero = rw here refl in omega (arith, e, l)

    earlier : ((j : ℕ) → j < least n (λ j. test (suc j)) → test (suc j) ≡ false) → (k : ℕ) → test zero ≡ false → k < cond (test zero) zero (suc (least n (λ j. test (suc j)))) → test k ≡ false
    earlier rest zero later l = later
    earlier rest (suc k) later l =
        let e : cond (test zero) zero (suc (least n (λ j. test (suc j)))) ≡ suc (least n (λ j. test (suc j))) = rw later refl in
        rest k (omega (arith, e, l))

pub least-bound : (n : ℕ) (test : ℕ → Bool) → least n test ≤ n
least-bound zero test = omega arith
least-bound (suc n) test = bound (least-bound n (λ j. test (suc j))) (test zero)
  where
    bound : least n (λ j. test (suc j)) ≤ n → (b : Bool) → cond b zero (suc (least n (λ j. test (suc j)))) ≤ suc n
    bound rest true = omega arith
    bound rest false = omega (arith, rest)

pub least-same : (n : ℕ) (f g : ℕ → Bool) → ((k : ℕ) → f k ≡ g k) → least n f ≡ least n g
least-same zero f g h = refl
least-same (suc n) f g h = rw (h zero, least-same n (λ j. f (suc j)) (λ j. g (suc j)) (λ j. h (suc j))) refl

-- an equivalence of the numbers below n
pub record IsEquivalence (n : ℕ) (same : ℕ → ℕ → Bool) : Type 0 where
  pub itself : (i : ℕ) → i < n → same i i ≡ true
  pub back : (i j : ℕ) → same i j ≡ true → same j i ≡ true
  pub joined : (i j k : ℕ) → same i j ≡ true → same j k ≡ true → same i k ≡ true

module _ (n : ℕ) (same : ℕ → ℕ → Bool) (law : IsEquivalence n same) where
  pub class-within : (c : ℕ) → c < n → (class_of n same c < n) × (same (class_of n same c) c ≡ true)
  class-within c l =
      let found = least-found n (λ k. same k c) c l (law.itself c l) in
      let less = found.0 in
      (omega (arith, less, l), found.1)

  pub class-from : (c d : ℕ) → same c d ≡ true → class_of n same c ≡ class_of n same d
  class-from c d h = least-same n (λ k. same k c) (λ k. same k d) (λ k.
      one_value (same k c) (same k d) (λ g. law.joined k c d g h) (λ g. law.joined k d c g (law.back c d h)))

  pub class-to : (c d : ℕ) → c < n → d < n → class_of n same c ≡ class_of n same d → same c d ≡ true
  class-to c d l m e =
      let own : same c (class_of n same d) ≡ true = ap (λ k. same c k) (sym e) ∙ law.back _ c (class-within c l).1 in
      law.joined c _ d own (class-within d m).1

-- the least that passes does, where one below n does
pub least-passes : (n : ℕ) (test : ℕ → Bool) → least n test < n → test (least n test) ≡ true
least-passes zero test l = absurd (omega (arith, l))
least-passes (suc n) test l = elim (cases_Bool (test zero)) [
  | inl here ↦ rw here here
  | inr later ↦ rw later (least-passes n (λ j. test (suc j)) (let e : cond (test zero) zero (suc (least n (λ j. test (suc j)))) ≡ suc (least n (λ j. test (suc j))) = rw later refl in omega (arith, l, e)))
]

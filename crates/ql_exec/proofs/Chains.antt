-- Chains of steps: the recursion in its own words, without the count of steps.
use Rattle.std.proofs.Common.{◌≡◌, ◌⊎◌, ℕ, zero, suc, ◌<◌, Bool, true, ◌&&◌, ◌||◌, refl, sym, ap, ◌∙◌, inl, inr, arith}
use Rattle.std.proofs.lemmas.Bool.{false≢true, or_cases, or_left, or_right, and_parts, and_from, cases_eq}
use Rattle.ql_exec.specs.Relations.{some_below, leads_in, leads}

some_below-same : (n : ℕ) (f g : ℕ → Bool) → ((c : ℕ) → c < n → f c ≡ g c) → some_below n f ≡ some_below n g
some_below-same zero f g same = refl
some_below-same (suc n) f g same = rw (same n (omega arith), some_below-same n f g (λ c less. same c (omega (arith, less)))) refl

some_below-found : (n : ℕ) (f : ℕ → Bool) → some_below n f ≡ true → (c : ℕ) × (c < n) × (f c ≡ true)
some_below-found zero f is = absurd (false≢true is)
some_below-found (suc n) f is = elim (or_cases (f n) (some_below n f) is) [
  | inl here ↦ (n, omega arith, here)
  | inr lower ↦ let found = some_below-found n f lower in let less = found.1 in (found.0, omega (arith, less), found.2)
]

some_below-from : (n : ℕ) (f : ℕ → Bool) (c : ℕ) → c < n → f c ≡ true → some_below n f ≡ true
some_below-from zero f c less is = absurd (omega (arith, less))
some_below-from (suc n) f c less is = elim (cases_eq c n) [
  | inl same ↦ or_left (f n) (some_below n f) (ap f (sym same) ∙ is)
  | inr other ↦ or_right (f n) (some_below n f) (some_below-from n f c (omega (arith, less, other)) is)
]

-- no more steps are needed than there are numbers
steps_enough : (step : ℕ → ℕ → Bool) (a bound b k : ℕ) → b < bound → b < k → leads_in step k a b ≡ leads_in step (suc b) a b
steps_enough step a zero b k within more = absurd (omega (arith, within))
steps_enough step a (suc bound) b zero within more = absurd (omega (arith, more))
steps_enough step a (suc bound) b (suc k) within more =
    ap (λ (rest : Bool). step a b || rest) (some_below-same b (λ c. leads_in step k a c && step c b) (λ c. leads_in step b a c && step c b) (λ c less.
    ap (λ (t : Bool). t && step c b)
    (steps_enough step a bound c k (omega (arith, within, less)) (omega (arith, more, less))
    ∙ sym (steps_enough step a bound c b (omega (arith, within, less)) less))))

leads_is : (step : ℕ → ℕ → Bool) (a b : ℕ) → leads step a b ≡ leads_in step (suc b) a b
unfolding leads
leads_is step a b = refl

shorter : (step : ℕ → ℕ → Bool) (a b c : ℕ) → c < b → leads_in step b a c ≡ leads step a c
shorter step a b c less = steps_enough step a (suc c) c b (omega arith) less ∙ sym (leads_is step a c)

pub leads-cases : (step : ℕ → ℕ → Bool) (a b : ℕ) → leads step a b ≡ true → (step a b ≡ true) ⊎ ((c : ℕ) × (c < b) × (leads step a c ≡ true) × (step c b ≡ true))
leads-cases step a b is = elim (or_cases (step a b) (some_below b (λ c. leads_in step b a c && step c b)) (sym (leads_is step a b) ∙ is)) [
  | inl one ↦ inl one
  | inr more ↦
      let found = some_below-found b (λ c. leads_in step b a c && step c b) more in
      let parts = and_parts (leads_in step b a found.0) (step found.0 b) found.2 in
      inr (found.0, found.1, sym (shorter step a b found.0 found.1) ∙ parts.0, parts.1)
]

pub leads-step : (step : ℕ → ℕ → Bool) (a b : ℕ) → step a b ≡ true → leads step a b ≡ true
leads-step step a b is = leads_is step a b ∙ or_left (step a b) (some_below b (λ c. leads_in step b a c && step c b)) is

pub leads-more : (step : ℕ → ℕ → Bool) (a b c : ℕ) → c < b → leads step a c ≡ true → step c b ≡ true → leads step a b ≡ true
leads-more step a b c less first last =
    leads_is step a b ∙ or_right (step a b) (some_below b (λ d. leads_in step b a d && step d b))
    (some_below-from b (λ d. leads_in step b a d && step d b) c less (and_from (leads_in step b a c) (step c b) (shorter step a b c less ∙ first) last))

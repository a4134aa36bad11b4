-- Chains of steps that go forward.
use Rattle.std.proofs.Common.{◌≡◌, ℕ, zero, suc, ◌<◌, Bool, true, inl, inr, arith}
use Rattle.ql_exec.specs.Relations.{leads}
use Rattle.ql_exec.proofs.Chains.{leads-cases, leads-more}
use Rattle.ql_formula.specs.Tables.{GoesForward}

less_below : (step : ℕ → ℕ → Bool) → GoesForward step → (bound a b : ℕ) → b < bound → leads step a b ≡ true → a < b
less_below step forward zero a b within is = absurd (omega (arith, within))
less_below step forward (suc bound) a b within is = elim (leads-cases step a b is) [
  | inl one ↦ forward a b one
  | inr more ↦ let c = more.0 in let less = more.1 in let first = less_below step forward bound a c (omega (arith, within, less)) more.2 in omega (arith, first, less)
]

pub leads-less : (step : ℕ → ℕ → Bool) → GoesForward step → (a b : ℕ) → leads step a b ≡ true → a < b
leads-less step forward a b is = less_below step forward (suc b) a b (omega arith) is

joined_below : (step : ℕ → ℕ → Bool) → GoesForward step → (bound a b c : ℕ) → c < bound → leads step a b ≡ true → leads step b c ≡ true → leads step a c ≡ true
joined_below step forward zero a b c within first second = absurd (omega (arith, within))
joined_below step forward (suc bound) a b c within first second = elim (leads-cases step b c second) [
  | inl one ↦ leads-more step a c b (forward b c one) first one
  | inr more ↦ let d = more.0 in let less = more.1 in leads-more step a c d less (joined_below step forward bound a b d (omega (arith, within, less)) first more.2) more.3
]

pub leads-join : (step : ℕ → ℕ → Bool) → GoesForward step → (a b c : ℕ) → leads step a b ≡ true → leads step b c ≡ true → leads step a c ≡ true
leads-join step forward a b c first second = joined_below step forward (suc c) a b c (omega arith) first second

-- the first and the last step of a chain
pub leads-last : (step : ℕ → ℕ → Bool) (a b : ℕ) → leads step a b ≡ true → (c : ℕ) × (step c b ≡ true)
leads-last step a b is = elim (leads-cases step a b is) [
  | inl one ↦ (a, one)
  | inr more ↦ (more.0, more.3)
]

first_below : (step : ℕ → ℕ → Bool) (bound a b : ℕ) → b < bound → leads step a b ≡ true → (c : ℕ) × (step a c ≡ true)
first_below step zero a b within is = absurd (omega (arith, within))
first_below step (suc bound) a b within is = elim (leads-cases step a b is) [
  | inl one ↦ (b, one)
  | inr more ↦ let less = more.1 in first_below step bound a more.0 (omega (arith, within, less)) more.2
]

pub leads-first : (step : ℕ → ℕ → Bool) (a b : ℕ) → leads step a b ≡ true → (c : ℕ) × (step a c ≡ true)
leads-first step a b is = first_below step (suc b) a b (omega arith) is

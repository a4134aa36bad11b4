-- Chains of steps as paths: what `leads` means.
use Rattle.std.proofs.Common.{◌≡◌, ℕ, zero, suc, ◌<◌, ◌≤◌, Bool, true, ◌&&◌, inl, inr, ◌∙◌, ap, arith}
use Rattle.std.proofs.lemmas.Bool.{cases_lt, false≢true, or_cases, or_left, or_right, and_parts, and_from}
use Rattle.ql_ground.specs.Relations.{some_below, leads_in, leads}

-- a path from a to b along the steps
pub data Path (step : ℕ → ℕ → Bool) : ℕ → ℕ → Type 0 where
  one : {a b : ℕ} → step a b ≡ true → Path step a b
  more : {a b c : ℕ} → Path step a b → step b c ≡ true → Path step a c

pub Path-append : {step : ℕ → ℕ → Bool} {a b c : ℕ} → Path step a b → Path step b c → Path step a c
Path-append p (one h) = more p h
Path-append p (more q h) = more (Path-append p q) h

-- a path along steps that go forward goes forward
pub Path-forward : {step : ℕ → ℕ → Bool} {a b : ℕ} → ((i j : ℕ) → step i j ≡ true → i < j) → Path step a b → a < b
Path-forward forward (one h) = forward _ _ h
Path-forward forward (more p h) = omega (arith, Path-forward forward p, forward _ _ h)

-- a path stays within a transitive relation that has its steps
pub Path-within : {step : ℕ → ℕ → Bool} {a b : ℕ} (R : ℕ → ℕ → Type 0) → ((i j : ℕ) → step i j ≡ true → R i j) → ((i j k : ℕ) → R i j → R j k → R i k) → Path step a b → R a b
Path-within R has join (one h) = has _ _ h
Path-within R has join (more p h) = join _ _ _ (Path-within R has join p) (has _ _ h)

some_below-found : (n : ℕ) (test : ℕ → Bool) (c : ℕ) → c < n → test c ≡ true → some_below n test ≡ true
some_below-found zero test c l h = absurd (omega arith)
some_below-found (suc n) test c l h = elim (cases_lt c n) [
  | inl lt ↦ or_right (test n) _ (some_below-found n test c lt h)
  | inr ge ↦ or_left (test n) _ (ap test (omega arith) ∙ h)
]

some_below-means : (n : ℕ) (test : ℕ → Bool) → some_below n test ≡ true → (c : ℕ) × (c < n) × (test c ≡ true)
some_below-means zero test h = absurd (false≢true h)
some_below-means (suc n) test h = elim (or_cases (test n) _ h) [
  | inl here ↦ (n, omega arith, here)
  | inr below ↦ let found : (c : ℕ) × (c < n) × (test c ≡ true) = some_below-means n test below in (found.0, omega arith, found.2)
]

leads_in-path : (step : ℕ → ℕ → Bool) (k a b : ℕ) → leads_in step k a b ≡ true → Path step a b
leads_in-path step zero a b h = absurd (false≢true h)
leads_in-path step (suc k) a b h = elim (or_cases (step a b) _ h) [
  | inl direct ↦ one direct
  | inr longer ↦
      let found : (c : ℕ) × (c < b) × ((leads_in step k a c && step c b) ≡ true) = some_below-means b (λ c. leads_in step k a c && step c b) longer in
      let parts = and_parts (leads_in step k a found.0) (step found.0 b) found.2 in
      more (leads_in-path step k a found.0 parts.0) parts.1
]

path-leads_in : (step : ℕ → ℕ → Bool) → ((i j : ℕ) → step i j ≡ true → i < j) → {a b : ℕ} → Path step a b → (k : ℕ) → b ≤ k → leads_in step k a b ≡ true
path-leads_in step forward {a} {b} (one h) zero l = absurd (omega (arith, forward a b h))
path-leads_in step forward {a} {b} (one h) (suc k) l = or_left (step a b) _ h
path-leads_in step forward {a} {b} (more p h) zero l = absurd (omega (arith, forward _ b h))
path-leads_in step forward {a} {b} (more {b = c} p h) (suc k) l =
    let earlier : c < b = forward c b h in
    or_right (step a b) _ (some_below-found b (λ c. leads_in step k a c && step c b) c earlier (and_from (leads_in step k a c) (step c b) (path-leads_in step forward p k (omega arith)) h))

-- what `leads` says of a and b: a path from a to b
pub leads-path : (step : ℕ → ℕ → Bool) (a b : ℕ) → leads step a b ≡ true → Path step a b
unfolding leads
leads-path step a b h = leads_in-path step b a b h

pub path-leads : (step : ℕ → ℕ → Bool) → ((i j : ℕ) → step i j ≡ true → i < j) → {a b : ℕ} → Path step a b → leads step a b ≡ true
unfolding leads
path-leads step forward {a} {b} p = path-leads_in step forward p b (omega arith)

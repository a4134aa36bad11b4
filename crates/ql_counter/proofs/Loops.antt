-- Loops that stop at the first number that passes a test.
use Rattle.std.proofs.Common.{◌≡◌, ℕ, zero, suc, ◌+◌, ◌<◌, ◌≤◌, Bool, true, false, refl, sym, ap, ◌∙◌, inl, inr, arith}
use Rattle.std.proofs.lemmas.Bool.{both_ways, cases_eq, cases_lt, or_from}
use Rattle.ql_exec.specs.Relations.{some_below}
use Rattle.ql_counter.specs.Patterns.{least}
use Rattle.ql_counter.proofs.EqualConstants.{least-bound, least-found, least-passes}
use Rattle.ql_counter.proofs.Agreement.{below-found}

-- no number below n passes
abbrev pub NoneBelow : ℕ → (ℕ → Bool) → Type 0
NoneBelow n test = (j : ℕ) → j < n → test j ≡ false

pub none-yet : (n : ℕ) (test : ℕ → Bool) → n ≡ 0 → NoneBelow n test
none-yet n test e j l = absurd (omega (arith, e, l))

pub none-more : (n k : ℕ) (test : ℕ → Bool) → k ≡ n + 1 → NoneBelow n test → test n ≡ false → NoneBelow k test
none-more n k test e none h j l = elim (cases_eq j n) [
  | inl same ↦ ap test same ∙ h
  | inr other ↦ none j (omega (arith, e, l, other))
]

pub least-is : (n k : ℕ) (test : ℕ → Bool) → k < n → test k ≡ true → NoneBelow k test → k ≡ least n test
least-is n k test l h none =
    let found = least-found n test k l h in
    let bound = found.0 in
    elim (cases_lt (least n test) k) [
      | inl less ↦ absurd (both_ways _ (none (least n test) less) found.1)
      | inr more ↦ omega (arith, bound, more)
    ]

pub least-none : (n k : ℕ) (test : ℕ → Bool) → n ≤ k → NoneBelow k test → n ≡ least n test
least-none n k test l none =
    let bound = least-bound n test in
    elim (cases_lt (least n test) n) [
      | inl less ↦ absurd (both_ways _ (none (least n test) (omega (arith, less, l))) (least-passes n test less))
      | inr more ↦ omega (arith, bound, more)
    ]

pub some-is : (n k : ℕ) (test : ℕ → Bool) → k < n → test k ≡ true → true ≡ some_below n test
some-is n k test l h = sym (below-found n test k l h)

pub some-none : (n k : ℕ) (test : ℕ → Bool) → n ≤ k → NoneBelow k test → false ≡ some_below n test
some-none zero k test l none = refl
some-none (suc n) k test l none = sym (or_from (test n) (some_below n test) (none n (omega (arith, l))) (sym (some-none n k test (omega (arith, l)) none)))

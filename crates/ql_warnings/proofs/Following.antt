-- The least of some offsets after one.
use Rattle.std.proofs.Common.{◌≡◌, ℕ, ◌+◌, ◌<◌, ◌≤◌, inl, inr, ◌⊎◌, List, length, Option, None, Some, slice_get, refl, sym, ap, subst, ◌∙◌, arith}
use Rattle.std.proofs.lemmas.Bool.{cases_lt}
use Rattle.std.proofs.lemmas.Option.{same_Some, slice_get_past}
use Rattle.std.specs.Option.{option_map}
use Rattle.ql_warnings.specs.Kept.{IsLeastBetween}

-- of these and those
pub next_more : (A B C : ℕ → Type 0) (at end m next : ℕ) → ((n : ℕ) → C n → A n ⊎ B n) → ((n : ℕ) → A n → C n) → ((n : ℕ) → B n → C n) → IsLeastBetween A at end m → IsLeastBetween B at m next → IsLeastBetween C at end next
next_more A B C at end m next split left right x y = record {
  within = omega (arith, x.within, y.within);
  least = λ n is less. elim (split n is) [ inl a ↦ omega (arith, y.within, x.least n a less) | inr b ↦ y.least n b less ];
  some = elim y.some [
    | inl same ↦ elim x.some [ inl end_is ↦ inl (same ∙ end_is) | inr found ↦ inr (omega (arith, found.0, same), subst C (sym same) (left m found.1)) ]
    | inr found ↦ inr (found.0, right next found.1)
  ];
}

module _ {X : Type 0} (offset : X → ℕ) (xs : List X) where
  -- the offset of one of the first items
  abbrev pub IsAmong : ℕ → ℕ → Type 0
  IsAmong count n = (k : ℕ) × (k < count) × (option_map offset (slice_get xs k) ≡ Some n)

  pub none_among : (at end : ℕ) → IsLeastBetween (IsAmong 0) at end end
  none_among at end = record { within = omega arith; least = λ n is less. absurd (omega (arith, is.1)); some = inl refl }

  pub one_among : (at end m next k : ℕ) (x : X) → slice_get xs k ≡ Some x → IsLeastBetween (IsAmong k) at end m → IsLeastBetween (λ n. n ≡ offset x) at m next → IsLeastBetween (IsAmong (k + 1)) at end next
  one_among at end m next k x here before is =
      next_more (IsAmong k) (λ n. n ≡ offset x) (IsAmong (k + 1)) at end m next
      (λ n among. elim (cases_lt among.0 k) [
        | inl sooner ↦ inl (among.0, sooner, among.2)
        | inr later ↦
            let same : among.0 ≡ k = omega (arith, among.1) in
            inr (same_Some n (offset x) (sym among.2 ∙ ap (λ j. option_map offset (slice_get xs j)) same ∙ ap (option_map offset) here))
      ])
      (λ n among. (among.0, omega (arith, among.1), among.2))
      (λ n same. (k, omega arith, ap (option_map offset) here ∙ ap (λ j. Some j) (sym same)))
      before is

  pub all_among : (at end next k : ℕ) → length xs ≤ k → IsLeastBetween (IsAmong k) at end next → IsLeastBetween (λ n. (j : ℕ) × (option_map offset (slice_get xs j) ≡ Some n)) at end next
  all_among at end next k past is = record {
    within = is.within;
    least = λ n found less. is.least n (inside n found) less;
    some = elim is.some [ inl same ↦ inl same | inr found ↦ inr (found.0, (found.1.0, found.1.2)) ];
  } where
    inside : (n : ℕ) → ((j : ℕ) × (option_map offset (slice_get xs j) ≡ Some n)) → IsAmong k n
    inside n found = elim (cases_lt found.0 k) [
      | inl less ↦ (found.0, less, found.1)
      | inr over ↦
          let none : ◌≡◌ {A = Option ℕ} None (Some n) = sym (ap (option_map offset) (slice_get_past xs found.0 (omega (arith, past, over)))) ∙ found.1 in
          absurd (cc)
    ]

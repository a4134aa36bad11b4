use Rattle.std.proofs.Common.{◌≡◌, ◌<◌, ◌≤◌, ◌+◌, ℕ, List, [], ◌∷◌, Option, None, length, get_or, drop, refl, sym, ap, ◌∙◌, arith, drop-cons, add-one, suc, zero}
use Rattle.std.proofs.lemmas.List.{drop_all}
use Rattle.ql_typing.specs.declared.fault.TypeFault.{TypeFault}
use Rattle.ql_typing.specs.Faults.{earlier, first_fault, each}
use Rattle.ql_typing.proofs.FirstFault.{earlier_assoc, earlier_none, first_append}

-- the items from place i on: the item there, and those after it
pub next_item : {A : Type 0} (xs : List A) (i : ℕ) (x : A) → i < length xs → x ≡ get_or xs i x → drop i xs ≡ x ∷ drop (i + 1) xs
next_item xs i x below is = rw (add-one, drop-cons xs i x) (ap (λ y. y ∷ drop (suc i) xs) (sym is))

-- no items stand past the end
pub no_item : {A : Type 0} (xs : List A) (i : ℕ) → length xs ≤ i → drop i xs ≡ []
no_item xs i past = drop_all i xs past

-- within a list the item of a place doesn't hang on what stands past the end
pub get_or_within : {A : Type 0} (xs : List A) (i : ℕ) (d e : A) → i < length xs → get_or xs i d ≡ get_or xs i e
get_or_within [] i d e below = absurd (omega arith)
get_or_within (x ∷ xs) zero d e below = refl
get_or_within (x ∷ xs) (suc i) d e below = get_or_within xs i d e (omega arith)

module _ {A : Type 0} (faults : A → List TypeFault) (xs : List A) where
  pub each_start : earlier None (first_fault (each faults xs)) ≡ first_fault (each faults xs)
  unfolding earlier
  each_start = refl

  pub each_step : (fault : Option TypeFault) (i : ℕ) (x : A) → i < length xs → x ≡ get_or xs i x
      → earlier fault (first_fault (each faults (drop i xs))) ≡ first_fault (each faults xs)
      → earlier (earlier fault (first_fault (faults x))) (first_fault (each faults (drop (i + 1) xs))) ≡ first_fault (each faults xs)
  unfolding each
  each_step fault i x below is h =
      earlier_assoc fault _ _ ∙ ap (λ r. earlier fault r) (sym (first_append (faults x) (each faults (drop (i + 1) xs))))
      ∙ ap (λ ys. earlier fault (first_fault (each faults ys))) (sym (next_item xs i x below is)) ∙ h

  pub each_end : (fault : Option TypeFault) (i : ℕ) → length xs ≤ i
      → earlier fault (first_fault (each faults (drop i xs))) ≡ first_fault (each faults xs) → fault ≡ first_fault (each faults xs)
  unfolding each first_fault
  each_end fault i past h = sym (earlier_none fault) ∙ ap (λ ys. earlier fault (first_fault (each faults ys))) (sym (no_item xs i past)) ∙ h

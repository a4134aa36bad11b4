-- The first effect of a transaction.
use Rattle.std.proofs.Common.{◌≡◌, ◌≤◌, ◌<◌, ℕ, zero, suc, Bool, true, false, not, nat_eq, List, length, get_or, refl, sym, ◌∙◌, ap, subst, inl, inr, arith}
use Rattle.std.proofs.lemmas.Bool.{cases_lt, cases_order, eq-eqb, false≢true, false_from_ne_true, ne_eqb, or_cases, or_left, or_right}
use Rattle.ql_base.specs.IdLists.{has_id}
use Rattle.ql_base.proofs.IdLemmas.{has_id-there}
use Rattle.ql_exec.specs.declared.effect.Effect.{Effect}
use Rattle.ql_exec.specs.Relations.{sametxn, some_below}
use Rattle.ql_machine.specs.Sets.{AreThose}
use Rattle.ql_machine.specs.Kept.{IsParcel}
use Rattle.ql_holder.specs.Closed.{Has}
use Rattle.ql_holder.proofs.Packages.{sametxn-back, sametxn-itself}
use Rattle.ql_restart.specs.Journaled.{is_first}
use Rattle.ql_restart.proofs.Counting.{first_least, index_of}

-- ---- numbers below a number

below-is : (n c : ℕ) (test : ℕ → Bool) → c < n → test c ≡ true → some_below n test ≡ true
below-is zero c test less is = absurd (omega (arith, less))
below-is (suc n) c test less is = elim (cases_lt c n) [
  | inl below ↦ or_right (test n) (some_below n test) (below-is n c test below is)
  | inr last ↦ or_left (test n) (some_below n test) (subst (λ (k : ℕ). test k ≡ true) (let same : c ≡ n = omega (arith, less, last) in same) is)
]

below-some : (n : ℕ) (test : ℕ → Bool) → some_below n test ≡ true → (c : ℕ) × (c < n) × (test c ≡ true)
below-some zero test is = absurd (false≢true is)
below-some (suc n) test is = elim (or_cases (test n) (some_below n test) is) [
  | inl last ↦ (n, omega arith, last)
  | inr below ↦ let rest = below-some n test below in (rest.0, (let less = rest.1 in omega (arith, less)), rest.2)
]

-- ---- by the ids of a transaction

module _ (x : List Effect) (a : ℕ) (ids : List ℕ) (those : AreThose (λ b. sametxn x a b ≡ true) ids) where
  itself : Has ids a
  itself = those.all a (sametxn-itself x a)

  pub some_ids : 0 < length ids
  some_ids = let at = index_of ids a itself in let inside = at.1 in omega (arith, inside)

  least : (b : ℕ) → Has ids b → get_or ids 0 0 ≤ b
  least b has = first_least ids b those.ascending has

  pub first_is : nat_eq (get_or ids 0 0) a ≡ is_first x a
  first_is = elim (cases_lt (get_or ids 0 0) a) [
    | inl below ↦ (let earlier = below-is a (get_or ids 0 0) (λ b. sametxn x b a) below (sametxn-back x a (get_or ids 0 0) (those.only (get_or ids 0 0) (has_id-there ids (get_or ids 0 0) 0 some_ids refl))) in
        ne_eqb (get_or ids 0 0) a (λ same. omega (arith, below, same)) ∙ sym (ap not earlier))
    | inr above ↦ (let here : get_or ids 0 0 ≡ a = (let low = least a itself in omega (arith, above, low)) in
        eq-eqb (get_or ids 0 0) a here ∙ sym (ap not (false_from_ne_true (some_below a (λ b. sametxn x b a)) (λ earlier. none here (below-some a (λ b. sametxn x b a) earlier)))))
  ]
    where
      none : get_or ids 0 0 ≡ a → ((c : ℕ) × (c < a) × (sametxn x c a ≡ true)) → ⊥
      none here earlier =
          let low = least earlier.0 (those.all earlier.0 (sametxn-back x earlier.0 a earlier.2)) in
          let less = earlier.1 in
          omega (arith, here, low, less)

  pub all_same : (b : ℕ) → has_id ids b ≡ sametxn x a b
  all_same b = same-truth (has_id ids b) (sametxn x a b) (those.only b) (those.all b)
    where
      same-truth : (c d : Bool) → (c ≡ true → d ≡ true) → (d ≡ true → c ≡ true) → c ≡ d
      same-truth true d there back = sym (there refl)
      same-truth false true there back = back refl
      same-truth false false there back = refl

  pub parcel_is : 1 ≤ a → a ≤ length x → IsParcel x ids
  parcel_is first last = record { ascending = those.ascending; package_of = record { member = a; first = first; last = last; all = all_same } }

-- a transaction has one first effect
pub one_first : (x : List Effect) (a b : ℕ) → is_first x a ≡ true → is_first x b ≡ true → sametxn x a b ≡ true → a ≡ b
one_first x a b first other same = elim (cases_order a b) [
  | inl equal ↦ equal
  | inr (inl less) ↦ absurd (earlier b (below-is b a (λ c. sametxn x c b) less same) other)
  | inr (inr more) ↦ absurd (earlier a (below-is a b (λ c. sametxn x c a) more (sametxn-back x a b same)) first)
]
  where
    earlier : (c : ℕ) → some_below c (λ d. sametxn x d c) ≡ true → is_first x c ≡ true → ⊥
    earlier c some is = let no : false ≡ true = sym (ap not some) ∙ is in false≢true no

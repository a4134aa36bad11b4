-- What ascending lists of ids have.
use Rattle.std.proofs.Common.{◌≡◌, ℕ, ◌<◌, ◌≤◌, ◌⊎◌, Bool, true, false, ◌||◌, nat_eq, List, [], ◌∷◌, refl, ap, sym, subst, ◌∙◌, inl, inr, arith}
use Rattle.std.proofs.lemmas.Bool.{false≢true, or_cases, or_left, or_right, eq-eqb, eqb-true, lt-ltb, cases_order}
use Rattle.ql_base.specs.IdLists.{IsBelowAll, IsAscending, has_id, with_id, union_of}
use Rattle.ql_base.proofs.IdLemmas.{with_id-later, with_id-first}

-- ---- with one id more

or_swap : (a b c : Bool) → (a || (b || c)) ≡ (b || (a || c))
or_swap true true c = refl
or_swap true false c = refl
or_swap false b c = refl

or_same : (a c : Bool) → (a || (a || c)) ≡ (a || c)
or_same true c = refl
or_same false c = refl

-- a list with an id has that id and what it had
pub has_id-with : (ids : List ℕ) (id a : ℕ) → has_id (with_id ids id) a ≡ (nat_eq id a || has_id ids a)
has_id-with [] id a = refl
has_id-with (other ∷ ids) id a = elim (cases_order id other) [
  | inl same ↦ rw (same, with_id-first other ids) (sym (or_same (nat_eq other a) (has_id ids a)))
  | inr (inl less) ↦ let h : id < other = less in rw (lt-ltb id other h) refl
  | inr (inr more) ↦
      let h : other < id = more in
      rw (with_id-later other ids id h, has_id-with ids id a) (or_swap (nat_eq other a) (nat_eq id a) (has_id ids a))
]

-- a union has what either list has
pub has_id-union : (ids others : List ℕ) (a : ℕ) → has_id (union_of ids others) a ≡ (has_id ids a || has_id others a)
has_id-union [] others a = refl
has_id-union (id ∷ ids) others a = rw (has_id-with (union_of ids others) id a, has_id-union ids others a) (or_assoc (nat_eq id a) (has_id ids a) (has_id others a))
  where
    or_assoc : (a b c : Bool) → (a || (b || c)) ≡ ((a || b) || c)
    or_assoc true b c = refl
    or_assoc false b c = refl

pub in_union-left : (ids others : List ℕ) (a : ℕ) → has_id ids a ≡ true → has_id (union_of ids others) a ≡ true
in_union-left ids others a is = has_id-union ids others a ∙ or_left (has_id ids a) (has_id others a) is

pub in_union-right : (ids others : List ℕ) (a : ℕ) → has_id others a ≡ true → has_id (union_of ids others) a ≡ true
in_union-right ids others a is = has_id-union ids others a ∙ or_right (has_id ids a) (has_id others a) is

pub in_union-cases : (ids others : List ℕ) (a : ℕ) → has_id (union_of ids others) a ≡ true → (has_id ids a ≡ true) ⊎ (has_id others a ≡ true)
in_union-cases ids others a is = or_cases (has_id ids a) (has_id others a) (sym (has_id-union ids others a) ∙ is)

-- ---- ascending lists with the same members are the same

below_none : (least : ℕ) (ids : List ℕ) (a : ℕ) → IsBelowAll least ids → has_id ids a ≡ true → least < a
below_none least [] a below is = absurd (false≢true is)
below_none least (id ∷ ids) a below is = elim (or_cases (nat_eq id a) (has_id ids a) is) [
  | inl here ↦ (let same = eqb-true id a here in let less : least < id = below.0 in omega (arith, same, less))
  | inr later ↦ below_none least ids a below.1 later
]

-- the first of an ascending list is in the other list too, so no greater than its first
first_below : (id : ℕ) (ids : List ℕ) (other : ℕ) (others : List ℕ) → IsAscending (id ∷ ids) → has_id (id ∷ ids) other ≡ true → id ≤ other
first_below id ids other others ascending is = elim (or_cases (nat_eq id other) (has_id ids other) is) [
  | inl here ↦ (let same = eqb-true id other here in omega (arith, same))
  | inr later ↦ (let less = below_none id ids other ascending.0 later in omega (arith, less))
]

itself : (id : ℕ) (ids : List ℕ) → has_id (id ∷ ids) id ≡ true
itself id ids = or_left (nat_eq id id) (has_id ids id) (eq-eqb id id refl)

-- without the common first id
rest_has : (id : ℕ) (ids others : List ℕ) → IsAscending (id ∷ ids) → ((a : ℕ) → has_id (id ∷ ids) a ≡ true → has_id (id ∷ others) a ≡ true)
    → (a : ℕ) → has_id ids a ≡ true → has_id others a ≡ true
rest_has id ids others ascending within a is = elim (or_cases (nat_eq id a) (has_id others a) (within a (or_right (nat_eq id a) (has_id ids a) is))) [
  | inl here ↦ absurd (let same = eqb-true id a here in let less = below_none id ids a ascending.0 is in omega (arith, same, less))
  | inr later ↦ later
]

pub same_ids : (ids others : List ℕ) → IsAscending ids → IsAscending others
    → ((a : ℕ) → has_id ids a ≡ true → has_id others a ≡ true) → ((a : ℕ) → has_id others a ≡ true → has_id ids a ≡ true)
    → ids ≡ others
same_ids [] [] left right within back = refl
same_ids [] (other ∷ others) left right within back = absurd (false≢true (back other (itself other others)))
same_ids (id ∷ ids) [] left right within back = absurd (false≢true (within id (itself id ids)))
same_ids (id ∷ ids) (other ∷ others) left right within back =
    let less = first_below id ids other others left (back other (itself other others)) in
    let more = first_below other others id ids right (within id (itself id ids)) in
    let same : id ≡ other = omega (arith, less, more) in
    let within_id : (a : ℕ) → has_id (id ∷ ids) a ≡ true → has_id (id ∷ others) a ≡ true = subst (λ (o : ℕ). (a : ℕ) → has_id (id ∷ ids) a ≡ true → has_id (o ∷ others) a ≡ true) (sym same) within in
    let back_id : (a : ℕ) → has_id (id ∷ others) a ≡ true → has_id (id ∷ ids) a ≡ true = subst (λ (o : ℕ). (a : ℕ) → has_id (o ∷ others) a ≡ true → has_id (id ∷ ids) a ≡ true) (sym same) back in
    let right_id : IsAscending (id ∷ others) = subst (λ (o : ℕ). IsAscending (o ∷ others)) (sym same) right in
    ap (λ (first : ℕ). first ∷ ids) same
    ∙ ap (λ (rest : List ℕ). other ∷ rest) (same_ids ids others left.1 right.1 (rest_has id ids others left within_id) (rest_has id others ids right_id back_id))

-- How many ids a set has: two sets that have none in common, and one between two numbers.
use Rattle.std.proofs.Common.{◌≡◌, ◌+◌, ◌<◌, ◌≤◌, ℕ, suc, true, false, nat_eq, List, [], ◌∷◌, length, get_or, refl, sym, ◌∙◌, ap, subst, inl, inr, arith}
use Rattle.std.proofs.lemmas.Bool.{cases_lt, false≢true, ne_eqb, or_cases, or_left, or_parts, or_right, eq-eqb, eqb-true, lt-ltb}
use Rattle.ql_base.specs.IdLists.{IsAscending, IsBelowAll, has_id, union_of, with_id}
use Rattle.ql_base.proofs.IdLemmas.{get_or-rises, with_id-later}
use Rattle.ql_holder.specs.Closed.{Has}
use Rattle.ql_holder.proofs.IdSets.{has_id-union}

length-with : (ids : List ℕ) (id : ℕ) → has_id ids id ≡ false → length (with_id ids id) ≡ suc (length ids)
length-with [] id absent = refl
length-with (other ∷ ids) id absent = elim (cases_lt id other) [
  | inl below ↦ rw (lt-ltb id other below) refl
  | inr above ↦ elim (cases_lt other id) [
    | inl less ↦ ap length (with_id-later other ids id less) ∙ ap suc (length-with ids id (or_parts (nat_eq other id) (has_id ids id) absent).1)
    | inr most ↦ absurd (false≢true (sym absent ∙ or_left (nat_eq other id) (has_id ids id) (eq-eqb other id (omega (arith, above, most)))))
  ]
]

-- an id below all of a list isn't in it
pub below-absent : (id : ℕ) (ids : List ℕ) → IsBelowAll id ids → has_id ids id ≡ false
below-absent id [] below = refl
below-absent id (other ∷ ids) below = let less = below.0 in rw (ne_eqb other id (λ same. omega (arith, less, same))) (below-absent id ids below.1)

pub length-union : (ids others : List ℕ) → IsAscending ids → ((a : ℕ) → Has ids a → has_id others a ≡ false) → length (union_of ids others) ≡ length ids + length others
length-union [] others ascending apart = omega arith
length-union (id ∷ ids) others ascending apart =
    let absent : has_id (union_of ids others) id ≡ false = has_id-union ids others id ∙ rw (below-absent id ids ascending.0) (apart id (or_left (nat_eq id id) (has_id ids id) (eq-eqb id id refl))) in
    let one = length-with (union_of ids others) id absent in
    let rest = length-union ids others ascending.1 (λ a has. apart a (or_right (nat_eq id a) (has_id ids a) has)) in
    omega (arith, one, rest)

-- ---- where an id stands

-- one that is there has an index
pub index_of : (ids : List ℕ) (a : ℕ) → Has ids a → (k : ℕ) × (k < length ids) × (get_or ids k 0 ≡ a)
index_of [] a has = absurd (false≢true has)
index_of (id ∷ ids) a has = elim (or_cases (nat_eq id a) (has_id ids a) has) [
  | inl here ↦ (0, omega arith, eqb-true id a here)
  | inr later ↦ let rest = index_of ids a later in (suc rest.0, (let less = rest.1 in omega (arith, less)), rest.2)
]

-- the first of an ascending list is the least
pub first_least : (ids : List ℕ) (a : ℕ) → IsAscending ids → Has ids a → get_or ids 0 0 ≤ a
first_least ids a ascending has =
    let at = index_of ids a has in
    subst (λ (b : ℕ). get_or ids 0 0 ≤ b) at.2 (get_or-rises ids 0 at.0 ascending (omega arith) at.1)

-- and a list between two numbers is no longer than these are apart
pub between : (ids : List ℕ) (low high : ℕ) → IsAscending ids → low ≤ high → ((a : ℕ) → Has ids a → (low < a) × (a ≤ high)) → length ids + low ≤ high
between [] low high ascending order within = omega (arith, order)
between (id ∷ ids) low high ascending order within =
    let here = within id (or_left (nat_eq id id) (has_id ids id) (eq-eqb id id refl)) in
    let rest = between ids id high ascending.1 here.1 (λ a has. (above ids ascending.0 a has, (within a (or_right (nat_eq id a) (has_id ids a) has)).1)) in
    let less = here.0 in
    omega (arith, less, rest)
  where
    above : (others : List ℕ) → IsBelowAll id others → (a : ℕ) → Has others a → id < a
    above [] below a has = absurd (false≢true has)
    above (other ∷ others) below a has = elim (or_cases (nat_eq other a) (has_id others a) has) [
      | inl same ↦ (let e = eqb-true other a same in let less : id < other = below.0 in omega (arith, e, less))
      | inr later ↦ above others below.1 a later
    ]

-- A receipt of a plain holder.
use Rattle.std.proofs.Common.{◌≡◌, ◌↔◌, ℕ, ◌+◌, ◌<◌, ◌≤◌, ◌⊎◌, Bool, true, false, ◌||◌, ◌&&◌, not, nat_eq, nat_le, nat_lt, List, [], length, get_or, take, Some, Result, Ok, Err, OnOk, refl, ap, sym, subst, ◌∙◌, inl, inr, arith}
use Rattle.std.proofs.lemmas.Bool.{false≢true, or_cases, or_left, or_right, eq-eqb, eqb-true, cases_Bool, cases_lt, cases_eq, and_parts, and_from, both_ways, false_from_ne_true, le-leb, lt-ltb, le-ltb, ne_eqb}
use Rattle.ql_base.specs.IdLists.{IsAscending, has_id, union_of}
use Rattle.ql_base.proofs.IdLemmas.{get_or-rises}
use Rattle.ql_exec.specs.declared.effect.Effect.{Effect}
use Rattle.ql_exec.specs.Relations.{sametxn}
use Rattle.ql_holder.specs.Closed.{Has}
use Rattle.ql_holder.specs.Missing.{IsFirstMissing}
use Rattle.ql_holder.specs.Needs.{Needs, AreWhole, IsPackage, IsNeeded}
use Rattle.ql_holder.proofs.ClosedLaws.{closed-member, closed-from, reached-within}
use Rattle.ql_holder.proofs.Packages.{package-member, package-reach, package-in, package-out, whole-union, sametxn-there, sametxn-itself}
use Rattle.ql_holder.proofs.Members.{has_id-index, index-has, has_id-take}
use Rattle.ql_holder.specs.Arrivals.{Applied, IsLeastMissing, IsGain, IsNew}
use Rattle.ql_ranges.specs.Reach.{InEither, IsReach}
use Rattle.ql_plain_holder.specs.Plain.{FitsPlain}

-- ---- a transaction's effects

-- those up to one, and that one
pub members-more : (x : List Effect) (id k a : ℕ) (has more : Bool) → 1 ≤ k → has ≡ ((nat_le 1 a && nat_lt a k) && sametxn x id a) → more ≡ (has || (nat_eq k a && sametxn x id k))
    → more ≡ ((nat_le 1 a && nat_lt a (k + 1)) && sametxn x id a)
members-more x id k a has more first old new = new ∙ elim (cases_eq k a) [
  | inl same ↦ ap (λ (b : Bool). b || (nat_eq k a && sametxn x id k)) old ∙ here same
  | inr other ↦ ap (λ (b : Bool). has || (b && sametxn x id k)) (ne_eqb k a other) ∙ or_none has ∙ old ∙ ap (λ (b : Bool). (nat_le 1 a && b) && sametxn x id a) (further other)
]
  where
    or_none : (b : Bool) → (b || false) ≡ b
    or_none true = refl
    or_none false = refl

    none_before : (p q r : Bool) → q ≡ false → (((p && q) && r) || r) ≡ r
    none_before true q r none = rw none refl
    none_before false q r none = refl

    here : k ≡ a → (((nat_le 1 a && nat_lt a k) && sametxn x id a) || (nat_eq k a && sametxn x id k)) ≡ ((nat_le 1 a && nat_lt a (k + 1)) && sametxn x id a)
    here same =
        ap (λ (b : Bool). ((nat_le 1 a && nat_lt a k) && sametxn x id a) || (b && sametxn x id k)) (eq-eqb k a same)
        ∙ ap (λ (n : ℕ). ((nat_le 1 a && nat_lt a k) && sametxn x id a) || sametxn x id n) same
        ∙ none_before (nat_le 1 a) (nat_lt a k) (sametxn x id a) (le-ltb a k (omega (arith, same)))
        ∙ sym (ap (λ (b : Bool). b && sametxn x id a) (and_from (nat_le 1 a) (nat_lt a (k + 1)) (le-leb 1 a (omega (arith, same, first))) (lt-ltb a (k + 1) (omega (arith, same)))))

    further : (k ≡ a → ⊥) → nat_lt a k ≡ nat_lt a (k + 1)
    further other = elim (cases_lt a k) [
      | inl less ↦ lt-ltb a k less ∙ sym (lt-ltb a (k + 1) (omega (arith, less)))
      | inr more_ ↦ le-ltb a k more_ ∙ sym (le-ltb a (k + 1) (beyond more_ other))
    ]
      where
        beyond : k ≤ a → (k ≡ a → ⊥) → k + 1 ≤ a
        beyond low differ = elim (cases_eq k a) [
          | inl same ↦ absurd (differ same)
          | inr apart ↦ omega (arith, low, apart)
        ]

pub package-from : (x : List Effect) (id : ℕ) (ids : List ℕ) → 1 ≤ id → id ≤ length x → ((a : ℕ) → has_id ids a ≡ ((nat_le 1 a && nat_lt a (length x + 1)) && sametxn x id a)) → IsPackage x ids
package-from x id ids first last has = record {
  member = id;
  first = first;
  last = last;
  all = λ a. has a ∙ elim (cases_Bool (sametxn x id a)) [
    | inl is ↦
        let there = sametxn-there x id a first last is in
        ap (λ (b : Bool). b && sametxn x id a) (and_from (nat_le 1 a) (nat_lt a (length x + 1)) (le-leb 1 a there.0) (lt-ltb a (length x + 1) (let high = there.1 in omega (arith, high))))
    | inr none ↦ none_by (nat_le 1 a && nat_lt a (length x + 1)) (sametxn x id a) none
  ];
}
  where
    none_by : (p q : Bool) → q ≡ false → (p && q) ≡ q
    none_by true q none = refl
    none_by false q none = sym none

-- ---- the closed part

pub closed-exactly : (x : List Effect) (after pack found : List ℕ) (id : ℕ) → IsPackage x pack → Has pack id → IsReach x pack [] found → ((a : ℕ) → Has found a → Has after a) → Applied x after id
closed-exactly x after pack found id p is reach within =
    closed-from (Needs x) (Has after) (Has found) within (λ a b has need. only b (reach.whole a b has need)) id (only id (reach.begins id is))
  where
    only : (a : ℕ) → InEither [] found a → Has found a
    only a (inl never) = absurd (false≢true never)
    only a (inr has) = has

pub open-exactly : (x : List Effect) (after pack found : List ℕ) (id missing : ℕ) → IsPackage x pack → Has pack id → IsReach x pack [] found → Has found missing → has_id after missing ≡ false → Applied x after id → ⊥
open-exactly x after pack found id missing p is reach has none closed =
    let needed = reach.needed missing has in
    both_ways (has_id after missing) none (closed missing (package-reach x pack p needed.0 id missing needed.1 is needed.2))

pub least-missing : (x : List Effect) (after pack found : List ℕ) (id : ℕ) → IsReach x pack [] found → IsFirstMissing found after (Some id) → IsLeastMissing x after pack id
least-missing x after pack found id reach first = record {
  needed = reach.needed id first.0;
  absent = first.1;
  least = λ a needed none. at_least a (in_reach a needed) none;
}
  where
    only : (a : ℕ) → InEither [] found a → Has found a
    only a (inl never) = absurd (false≢true never)
    only a (inr has) = has

    in_reach : (a : ℕ) → IsNeeded x pack a → Has found a
    in_reach a needed = reached-within (Needs x) (Has found) (λ b c has need. only c (reach.whole b c has need)) needed.0 a (only needed.0 (reach.begins needed.0 needed.1)) needed.2

    at_least : (a : ℕ) → Has found a → has_id after a ≡ false → id ≤ a
    at_least a has none = elim (cases_lt a id) [
      | inl below ↦ absurd (both_ways (has_id after a) none (first.2 a has below))
      | inr most ↦ most
    ]

pub pack-closed : (x : List Effect) (after pack found : List ℕ) → IsPackage x pack → IsReach x pack [] found → ((a : ℕ) → Has found a → Has after a) → (a : ℕ) → Has pack a → Applied x after a
pack-closed x after pack found p reach within = λ a is. closed-exactly x after pack found a p is reach within

-- ---- what is kept

pub fits-after : (x : List Effect) (received pack after applied now : List ℕ) → FitsPlain received applied x → IsPackage x pack → after ≡ union_of received pack → IsAscending after → ((a : ℕ) → Has now a ↔ Applied x after a) → FitsPlain after now x
fits-after x received pack after applied now fits p added ascending exact = record {
  ascending = ascending;
  whole = subst (AreWhole x) (sym added) (whole-union x received pack fits.whole p);
  exact = exact;
}

pub gain-exact : (x : List Effect) (received after applied now rest : List ℕ) → FitsPlain received applied x → ((a : ℕ) → Has now a ↔ Applied x after a) → ((a : ℕ) → has_id rest a ≡ (has_id now a && not (has_id applied a))) → IsAscending rest → IsGain x received after rest
gain-exact x received after applied now rest fits exact is ascending = record {
  ascending = ascending;
  gained = λ a. (
    λ has.
        let parts = and_parts (has_id now a) (not (has_id applied a)) (sym (is a) ∙ has) in
        ((exact a).0 parts.0, λ old. both_ways (has_id applied a) (open_ (has_id applied a) parts.1) ((fits.exact a).1 old)),
    λ both.
        let none : has_id applied a ≡ false = false_from_ne_true (has_id applied a) (λ old. both.1 ((fits.exact a).0 old)) in
        is a ∙ and_from (has_id now a) (not (has_id applied a)) ((exact a).1 both.0) (ap not none),
  );
}
  where
    open_ : (b : Bool) → not b ≡ true → b ≡ false
    open_ true never = absurd (false≢true never)
    open_ false is_true = refl

-- ---- one effect more in the closed part

pub closed-more : (x : List Effect) (after ids closed more : List ℕ) (k : ℕ) → k < length ids → ((a : ℕ) → Has closed a ↔ (Has (take k ids) a × Applied x after a))
    → ((a : ℕ) → Has more a ↔ (Has closed a ⊎ ((a ≡ get_or ids k 0) × Applied x after (get_or ids k 0)))) → (a : ℕ) → Has more a ↔ (Has (take (k + 1) ids) a × Applied x after a)
closed-more x after ids closed more k inside old new a = (
  λ is. elim ((new a).0 is) [
    | inl before ↦ (has_id-take ids k a inside ∙ or_right (nat_eq (get_or ids k 0) a) (has_id (take k ids) a) ((old a).0 before).0, ((old a).0 before).1)
    | inr here ↦ (
      has_id-take ids k a inside ∙ or_left (nat_eq (get_or ids k 0) a) (has_id (take k ids) a) (eq-eqb (get_or ids k 0) a (sym here.0)),
      subst (Applied x after) (sym here.0) here.1,
    )
  ],
  λ both. (new a).1 (elim (or_cases (nat_eq (get_or ids k 0) a) (has_id (take k ids) a) (sym (has_id-take ids k a inside) ∙ both.0)) [
    | inl here ↦ inr (sym (eqb-true (get_or ids k 0) a here), subst (Applied x after) (sym (eqb-true (get_or ids k 0) a here)) both.1)
    | inr before ↦ inl ((old a).1 (before, both.1))
  ]),
)

pub close-one : (x : List Effect) (after closed more : List ℕ) (id : ℕ) → Applied x after id → ((a : ℕ) → has_id more a ≡ (nat_eq id a || has_id closed a)) → (a : ℕ) → Has more a ↔ (Has closed a ⊎ ((a ≡ id) × Applied x after id))
close-one x after closed more id is has a = (
  λ there. elim (or_cases (nat_eq id a) (has_id closed a) (sym (has a) ∙ there)) [
    | inl here ↦ inr (sym (eqb-true id a here), is)
    | inr old ↦ inl old
  ],
  λ either. has a ∙ elim either [
    | inl old ↦ or_right (nat_eq id a) (has_id closed a) old
    | inr here ↦ or_left (nat_eq id a) (has_id closed a) (eq-eqb id a (sym here.0))
  ],
)

pub close-none : (x : List Effect) (after closed : List ℕ) (id : ℕ) → (Applied x after id → ⊥) → (a : ℕ) → Has closed a ↔ (Has closed a ⊎ ((a ≡ id) × Applied x after id))
close-none x after closed id open_ a = (
  λ is. inl is,
  λ either. elim either [
    | inl old ↦ old
    | inr here ↦ absurd (open_ here.1)
  ],
)

pub fits-nothing : (x : List Effect) → FitsPlain [] [] x
fits-nothing x = record {
  ascending = tt;
  whole = record { there = λ a is. absurd (false≢true is); whole = λ a b is same. absurd (false≢true is) };
  exact = λ a. (λ is. absurd (false≢true is), λ closed. closed-member (Needs x) (Has []) a closed);
}

pub package-has : (x : List Effect) (id : ℕ) (ids : List ℕ) → 1 ≤ id → id ≤ length x → ((a : ℕ) → has_id ids a ≡ ((nat_le 1 a && nat_lt a (length x + 1)) && sametxn x id a)) → Has ids id
package-has x id ids first last has =
    has id ∙ and_from (nat_le 1 id && nat_lt id (length x + 1)) (sametxn x id id)
    (and_from (nat_le 1 id) (nat_lt id (length x + 1)) (le-leb 1 id first) (lt-ltb id (length x + 1) (omega (arith, last)))) (sametxn-itself x id)

-- ---- where a call returned Ok

pub on-ok : {A E : Type 0} (r : Result A E) {P Q : Type 0} → (P → Q) → OnOk r P → OnOk r Q
on-ok (Ok a) go is = go is
on-ok (Err e) go is = tt

-- an effect that is of the transaction, and one that isn't
pub member-added : (old new is same : Bool) → same ≡ true → new ≡ (is || old) → new ≡ (old || (is && same))
member-added old new is same in_txn added = added ∙ swap is old ∙ ap (λ (t : Bool). old || (is && t)) (sym in_txn)
  where
    swap : (p q : Bool) → (p || q) ≡ (q || (p && true))
    swap true true = refl
    swap true false = refl
    swap false true = refl
    swap false false = refl

pub member-left : (old is same : Bool) → same ≡ false → old ≡ (old || (is && same))
member-left true is same out = refl
member-left false true same out = sym out
member-left false false same out = refl

-- Ascending lists of ids, and parts of them.
use Rattle.std.proofs.Common.{◌≡◌, ◌<◌, ◌≤◌, ℕ, zero, suc, Bool, true, false, not, ◌&&◌, ◌||◌, cond, nat_eq, List, [], ◌∷◌, ◌++◌, length, take, drop, slice_get, None, Some, filter, append-nil, refl, sym, ap, ◌∙◌, subst, inl, inr, arith}
use Rattle.std.proofs.lemmas.Bool.{and_parts, or_cases, or_right, cases_order, eq-eqb, eqb-true, ne_eqb, lt-ltb}
use Rattle.std.proofs.lemmas.List.Elements.{filter-append}
use Rattle.ql_base.specs.IdLists.{IsAscending, IsBelowAll, has_id, union_of, with_id}
use Rattle.ql_base.proofs.IdLemmas.{IsAscending-union, with_id-first, with_id-later}

-- ---- membership

none_below : (id : ℕ) (xs : List ℕ) (a : ℕ) → IsBelowAll id xs → a ≤ id → has_id xs a ≡ false
none_below id [] a below le = refl
none_below id (x ∷ xs) a below le = let h : id < x = below.0 in rw (ne_eqb x a (omega arith)) (none_below id xs a below.1 le)

itself : (x : ℕ) (xs : List ℕ) → has_id (x ∷ xs) x ≡ true
itself x xs = rw (eq-eqb x x refl) refl

-- two ascending lists with the same ids are one
pub same_ids : (xs ys : List ℕ) → IsAscending xs → IsAscending ys → ((a : ℕ) → has_id xs a ≡ has_id ys a) → xs ≡ ys
same_ids [] [] up vp same = refl
same_ids [] (y ∷ ys) up vp same = let no : false ≡ true = same y ∙ itself y ys in cc
same_ids (x ∷ xs) [] up vp same = let no : true ≡ false = sym (itself x xs) ∙ same x in cc
same_ids (x ∷ xs) (y ∷ ys) up vp same = elim (cases_order x y) [
  | inl e ↦
      let first : x ≡ y = e in
      let others : (a : ℕ) → has_id xs a ≡ has_id ys a = λ a. other a (nat_eq x a) refl (subst (λ n. (nat_eq x a || has_id xs a) ≡ (nat_eq n a || has_id ys a)) (sym first) (same a)) (λ is. none_below x xs a up.0 (omega (arith, is))) (λ is. none_below y ys a vp.0 (omega (arith, is, first))) in
      ap (λ n. n ∷ xs) first ∙ ap (λ ns. y ∷ ns) (same_ids xs ys up.1 vp.1 others)
  | inr (inl less) ↦
      let h : x < y = less in
      let no : true ≡ false = sym (itself x xs) ∙ same x ∙ rw (ne_eqb y x (omega arith)) (none_below y ys x vp.0 (omega arith)) in
      cc
  | inr (inr more) ↦
      let h : y < x = more in
      let no : false ≡ true = sym (rw (ne_eqb x y (omega arith)) (none_below x xs y up.0 (omega arith))) ∙ same y ∙ itself y ys in
      cc
]
  where
    other : (a : ℕ) (b : Bool) → nat_eq x a ≡ b → (nat_eq x a || has_id xs a) ≡ (nat_eq x a || has_id ys a) → (x ≡ a → has_id xs a ≡ false) → (x ≡ a → has_id ys a ≡ false) → has_id xs a ≡ has_id ys a
    other a true is both left right = left (eqb-true x a is) ∙ sym (right (eqb-true x a is))
    other a false is both left right = rw is at both

pub has_with : (xs : List ℕ) (id a : ℕ) → has_id (with_id xs id) a ≡ (nat_eq id a || has_id xs a)
has_with [] id a = refl
has_with (x ∷ xs) id a = elim (cases_order id x) [
  | inl same ↦ rw (same, with_id-first x xs) (twice (nat_eq x a) (has_id xs a))
  | inr (inl less) ↦ let h : id < x = less in rw (lt-ltb id x h) refl
  | inr (inr more) ↦ let h : x < id = more in rw (with_id-later x xs id h, has_with xs id a) (turned (nat_eq x a) (nat_eq id a) (has_id xs a))
]
  where
    twice : (b c : Bool) → (b || c) ≡ (b || (b || c))
    twice true c = refl
    twice false c = refl

    turned : (b c d : Bool) → (b || (c || d)) ≡ (c || (b || d))
    turned true true d = refl
    turned true false d = refl
    turned false c d = refl

pub has_union : (xs ys : List ℕ) (a : ℕ) → has_id (union_of xs ys) a ≡ (has_id xs a || has_id ys a)
has_union [] ys a = refl
has_union (x ∷ xs) ys a = has_with (union_of xs ys) x a ∙ rw (has_union xs ys a) (joined (nat_eq x a) (has_id xs a) (has_id ys a))
  where
    joined : (b c d : Bool) → (b || (c || d)) ≡ ((b || c) || d)
    joined true c d = refl
    joined false c d = refl

-- ---- the ids that pass a test

pub has_part : (p : ℕ → Bool) (xs : List ℕ) (a : ℕ) → has_id (filter p xs) a ≡ (has_id xs a && p a)
has_part p [] a = refl
has_part p (x ∷ xs) a = by (p x) refl (nat_eq x a) refl (has_part p xs a)
  where
    none : (b : Bool) → (b && false) ≡ false
    none true = refl
    none false = refl

    by : (t : Bool) → p x ≡ t → (b : Bool) → nat_eq x a ≡ b → has_id (filter p xs) a ≡ (has_id xs a && p a)
        → has_id (cond t (x ∷ filter p xs) (filter p xs)) a ≡ ((b || has_id xs a) && p a)
    by true is true same rest = let here : p a ≡ true = ap p (sym (eqb-true x a same)) ∙ is in rw (same, here) refl
    by true is false same rest = rw same rest
    by false is true same rest = let here : p a ≡ false = ap p (sym (eqb-true x a same)) ∙ is in rest ∙ rw here (none (has_id xs a))
    by false is false same rest = rest

below_part : (p : ℕ → Bool) (id : ℕ) (xs : List ℕ) → IsBelowAll id xs → IsBelowAll id (filter p xs)
below_part p id [] below = tt
below_part p id (x ∷ xs) below = by (p x) (below_part p id xs below.1)
  where
    by : (t : Bool) → IsBelowAll id (filter p xs) → IsBelowAll id (cond t (x ∷ filter p xs) (filter p xs))
    by true rest = (below.0, rest)
    by false rest = rest

pub ascending_part : (p : ℕ → Bool) (xs : List ℕ) → IsAscending xs → IsAscending (filter p xs)
ascending_part p [] up = tt
ascending_part p (x ∷ xs) up = by (p x) (ascending_part p xs up.1)
  where
    by : (t : Bool) → IsAscending (filter p xs) → IsAscending (cond t (x ∷ filter p xs) (filter p xs))
    by true rest = (below_part p x xs up.0, rest)
    by false rest = rest

-- of a list, those that are in a part of it
pub part_is : (ids seen : List ℕ) → IsAscending ids → IsAscending seen → ((a : ℕ) → has_id ids a ≡ true → has_id seen a ≡ true) → filter (has_id ids) seen ≡ ids
part_is ids seen up vp within = same_ids (filter (has_id ids) seen) ids (ascending_part (has_id ids) seen vp) up (λ a. has_part (has_id ids) seen a ∙ by a (has_id ids a) refl)
  where
    drop : (b : Bool) → (b && false) ≡ false
    drop true = refl
    drop false = refl

    by : (a : ℕ) (b : Bool) → has_id ids a ≡ b → (has_id seen a && b) ≡ b
    by a true is = rw (within a is) refl
    by a false is = drop (has_id seen a)

-- of two lists together, those of the second
pub kept_of_union : (ids more : List ℕ) → IsAscending ids → filter (has_id ids) (union_of more ids) ≡ ids
kept_of_union ids more up = part_is ids (union_of more ids) up (IsAscending-union more ids up) (λ a is. has_union more ids a ∙ or_right (has_id more a) (has_id ids a) is)

-- and the others, where no id is in both
pub rest_of_union : (ids more : List ℕ) → IsAscending ids → IsAscending more → ((a : ℕ) → has_id more a ≡ true → has_id ids a ≡ false) → filter (λ a. not (has_id ids a)) (union_of more ids) ≡ more
rest_of_union ids more up vp new = same_ids (filter (λ a. not (has_id ids a)) (union_of more ids)) more (ascending_part (λ a. not (has_id ids a)) (union_of more ids) (IsAscending-union more ids up)) vp (λ a.
    has_part (λ b. not (has_id ids b)) (union_of more ids) a ∙ rw (has_union more ids a) (by (has_id ids a) (has_id more a) (new a)))
  where
    by : (b c : Bool) → (c ≡ true → b ≡ false) → ((c || b) && not b) ≡ c
    by true true h = let no : true ≡ false = h refl in cc
    by true false h = refl
    by false true h = refl
    by false false h = refl

-- ---- one id more, in a loop

pub front_and : {X : Type 0} → (xs : List X) (k : ℕ) (x : X) → slice_get xs k ≡ Some x → (xs ≡ take k xs ++ x ∷ drop (suc k) xs) × (take (suc k) xs ≡ take k xs ++ x ∷ []) × (length (take k xs) ≡ k)
front_and [] k x at = let no : None ≡ Some x = at in cc
front_and (f ∷ xs) zero x at = let same : f ≡ x = cc in (ap (λ g. g ∷ xs) same, ap (λ g. g ∷ []) same, refl)
front_and (f ∷ xs) (suc k) x at = let rest = front_and xs k x at in (ap (λ es. f ∷ es) rest.0, ap (λ es. f ∷ es) rest.1, ap suc rest.2)

below_one : (u : ℕ) (us : List ℕ) (id : ℕ) (ws : List ℕ) → IsBelowAll u (us ++ id ∷ ws) → u < id
below_one u [] id ws below = below.0
below_one u (v ∷ us) id ws below = below_one u us id ws below.1

earlier_below : (us : List ℕ) (id : ℕ) (ws : List ℕ) → IsAscending (us ++ id ∷ ws) → (a : ℕ) → has_id us a ≡ true → a < id
earlier_below [] id ws up a has = let no : false ≡ true = has in cc
earlier_below (u ∷ us) id ws up a has = elim (or_cases (nat_eq u a) (has_id us a) has) [
  | inl same ↦ let is = eqb-true u a same in let less = below_one u us id ws up.0 in omega (arith, is, less)
  | inr later ↦ earlier_below us id ws up.1 a later
]

with_last : (xs : List ℕ) (id : ℕ) → ((a : ℕ) → has_id xs a ≡ true → a < id) → with_id xs id ≡ xs ++ id ∷ []
with_last [] id above = refl
with_last (x ∷ xs) id above =
    with_id-later x xs id (above x (itself x xs)) ∙ ap (λ ys. x ∷ ys) (with_last xs id (λ a has. above a (or_right (nat_eq x a) (has_id xs a) has)))

-- the next id passes the test, or not
pub more_passes : (p : ℕ → Bool) (xs : List ℕ) (k id : ℕ) → IsAscending xs → slice_get xs k ≡ Some id → p id ≡ true → with_id (filter p (take k xs)) id ≡ filter p (take (suc k) xs)
more_passes p xs k id up at is =
    let cut = front_and xs k id at in
    let earlier = earlier_below (take k xs) id (drop (suc k) xs) (subst IsAscending cut.0 up) in
    with_last (filter p (take k xs)) id (λ a has. earlier a (and_parts (has_id (take k xs) a) (p a) (sym (has_part p (take k xs) a) ∙ has)).0)
    ∙ sym (ap (filter p) cut.1 ∙ filter-append p (take k xs) (id ∷ []) ∙ rw is refl)

pub fails : (p : ℕ → Bool) (xs : List ℕ) (k id : ℕ) → slice_get xs k ≡ Some id → p id ≡ false → filter p (take k xs) ≡ filter p (take (suc k) xs)
fails p xs k id at is = sym (ap (filter p) (front_and xs k id at).1 ∙ filter-append p (take k xs) (id ∷ []) ∙ rw is (append-nil (filter p (take k xs))))

pub next_other : (ids xs others : List ℕ) (k id : ℕ) → IsAscending xs → slice_get xs k ≡ Some id → others ≡ filter (λ a. not (has_id ids a)) (take k xs)
    → cond (has_id ids id) others (with_id others id) ≡ filter (λ a. not (has_id ids a)) (take (suc k) xs)
next_other ids xs others k id up at is = by (has_id ids id) refl
  where
    by : (b : Bool) → has_id ids id ≡ b → cond b others (with_id others id) ≡ filter (λ a. not (has_id ids a)) (take (suc k) xs)
    by true here = is ∙ fails (λ a. not (has_id ids a)) xs k id at (rw here refl)
    by false lacks = ap (λ us. with_id us id) is ∙ more_passes (λ a. not (has_id ids a)) xs k id up at (rw lacks refl)

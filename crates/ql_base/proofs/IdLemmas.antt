-- Facts on ascending lists of ids.
use Rattle.std.proofs.Common.{◌≡◌, ℕ, suc, zero, ◌+◌, ◌-◌, ◌<◌, ◌≤◌, min, Bool, true, false, cond, nat_lt, nat_le, List, [], ◌∷◌, ◌++◌, length, get_or, drop, Result, Ok, Err, IfOk, IfErr, ◌⊎◌, take, length-drop, refl, ap, sym, subst, ◌∙◌, arith, inl, inr, append_assoc, add-one, add-zero, drop-cons}
use Rattle.std.proofs.Math.Nat.{min-eq_left, min-eq_right}
use Rattle.std.proofs.lemmas.List.{drop_all, append-nil}
use Rattle.std.specs.List.{insert}
use Rattle.std.specs.Int.{from_bool}
use Rattle.std.proofs.Math.Seq.{take-length}
use Rattle.std.specs.List.Sorted.{IsBinarySearchResult}
use Rattle.std.specs.Ordering.{nat_cmp}
use Rattle.std.proofs.lemmas.List.Sorted.{searched}
use Rattle.std.proofs.lemmas.Bool.{lt-ltb, le-ltb, lt-leb, le-leb, eq-eqb, ne_eqb, or_right, cases_order}
use Rattle.ql_base.specs.IdLists.{IsBelowAll, IsAscending, has_id, with_id, union_of}

pub IsBelowAll-below : (id other : ℕ) (ids : List ℕ) → id < other → IsBelowAll other ids → IsBelowAll id ids
IsBelowAll-below id other [] less below = tt
IsBelowAll-below id other (next ∷ ids) less below = (let h : other < next = below.0 in omega arith, IsBelowAll-below id other ids less below.1)

-- ---- with an id in its place
pub with_id-below : (ids : List ℕ) (id : ℕ) → IsBelowAll id ids → with_id ids id ≡ id ∷ ids
with_id-below [] id below = refl
with_id-below (other ∷ ids) id below = rw (lt-ltb id other below.0) refl

pub with_id-later : (other : ℕ) (ids : List ℕ) (id : ℕ) → other < id → with_id (other ∷ ids) id ≡ other ∷ with_id ids id
with_id-later other ids id less = rw (le-ltb id other (omega arith), lt-ltb other id less) refl

pub with_id-first : (id : ℕ) (ids : List ℕ) → with_id (id ∷ ids) id ≡ id ∷ ids
with_id-first id ids = rw (le-ltb id id (omega arith)) refl

-- between what is below an id and what is above it
pub with_id-between : (ids : List ℕ) (id at : ℕ)
    → at ≤ length ids
    → ((k : ℕ) → k < at → get_or ids k 0 < id)
    → ((k : ℕ) → at ≤ k → k < length ids → id < get_or ids k 0)
    → with_id ids id ≡ insert ids at id
with_id-between [] id zero within below above = refl
with_id-between [] id (suc at) within below above = absurd (omega arith)
with_id-between (other ∷ ids) id zero within below above =
    let less : id < other = above 0 (omega arith) (omega arith) in
    rw (lt-ltb id other less) refl
with_id-between (other ∷ ids) id (suc at) within below above =
    let less : other < id = below 0 (omega arith) in
    with_id-later other ids id less
    ∙ ap (λ rest. other ∷ rest) (with_id-between ids id at (omega arith) (λ k h. below (suc k) (omega arith)) (λ k h i. above (suc k) (omega arith) (omega arith)))

-- ---- by places
pub get_or-above : (id : ℕ) (ids : List ℕ) (k : ℕ) → IsBelowAll id ids → k < length ids → id < get_or ids k 0
get_or-above id [] k below within = absurd (omega arith)
get_or-above id (other ∷ ids) zero below within = below.0
get_or-above id (other ∷ ids) (suc k) below within = get_or-above id ids k below.1 (omega arith)

pub get_or-rises : (ids : List ℕ) (i j : ℕ) → IsAscending ids → i ≤ j → j < length ids → get_or ids i 0 ≤ get_or ids j 0
get_or-rises [] i j ascending order within = absurd (omega arith)
get_or-rises (id ∷ ids) zero zero ascending order within = omega arith
get_or-rises (id ∷ ids) zero (suc j) ascending order within =
    let less : id < get_or ids j 0 = get_or-above id ids j ascending.0 (omega arith) in omega arith
get_or-rises (id ∷ ids) (suc i) zero ascending order within = absurd (omega arith)
get_or-rises (id ∷ ids) (suc i) (suc j) ascending order within = get_or-rises ids i j ascending.1 (omega arith) (omega arith)

-- an id that is there
pub with_id-there : (ids : List ℕ) (id at : ℕ) → IsAscending ids → at < length ids → get_or ids at 0 ≡ id → with_id ids id ≡ ids
with_id-there [] id at ascending within is = absurd (omega arith)
with_id-there (other ∷ ids) id zero ascending within is = rw (← is) (with_id-first other ids)
with_id-there (other ∷ ids) id (suc at) ascending within is =
    let above : other < get_or ids at 0 = get_or-above other ids at ascending.0 (omega arith) in
    let less : other < id = omega (arith, above, is) in
    with_id-later other ids id less ∙ ap (λ rest. other ∷ rest) (with_id-there ids id at ascending.1 (omega arith) is)

-- ---- whether an id is there
pub has_id-there : (ids : List ℕ) (id at : ℕ) → at < length ids → get_or ids at 0 ≡ id → has_id ids id ≡ true
has_id-there [] id at within is = absurd (omega arith)
has_id-there (other ∷ ids) id zero within is = rw (eq-eqb other id is) refl
has_id-there (other ∷ ids) id (suc at) within is = or_right _ _ (has_id-there ids id at (omega arith) is)

pub has_id-absent : (ids : List ℕ) (id : ℕ) → ((k : ℕ) → k < length ids → get_or ids k 0 ≡ id → ⊥) → has_id ids id ≡ false
has_id-absent [] id other = refl
has_id-absent (first ∷ ids) id other =
    rw (ne_eqb first id (other 0 (omega arith)))
    (has_id-absent ids id (λ k h e. other (suc k) (omega arith) e))

-- ---- the order stays
IsBelowAll-with_id : (least : ℕ) (ids : List ℕ) (id : ℕ) → least < id → IsBelowAll least ids → IsBelowAll least (with_id ids id)
IsBelowAll-with_id least [] id less below = (less, tt)
IsBelowAll-with_id least (other ∷ ids) id less below =
    elim (nat_lt id other) as (λ b. IsBelowAll least (cond b (id ∷ other ∷ ids) (cond (nat_lt other id) (other ∷ with_id ids id) (other ∷ ids)))) [
      | true ↦ (less, below)
      | false ↦ elim (nat_lt other id) as (λ b. IsBelowAll least (cond b (other ∷ with_id ids id) (other ∷ ids))) [
        | true ↦ (below.0, IsBelowAll-with_id least ids id less below.1)
        | false ↦ below
      ]
    ]

pub IsAscending-with_id : (ids : List ℕ) (id : ℕ) → IsAscending ids → IsAscending (with_id ids id)
IsAscending-with_id [] id ascending = (tt, tt)
IsAscending-with_id (other ∷ ids) id ascending =
    elim (cases_order id other) [
      | inl same ↦ rw (same, with_id-first other ids) ascending
      | inr (inl less) ↦ let h : id < other = less in rw (lt-ltb id other h) ((h, IsBelowAll-below id other ids h ascending.0), ascending)
      | inr (inr more) ↦ let h : other < id = more in rw (with_id-later other ids id h) (IsBelowAll-with_id other ids id h ascending.0, IsAscending-with_id ids id ascending.1)
    ]

IsBelowAll-union : (least : ℕ) (ids others : List ℕ) → IsBelowAll least ids → IsBelowAll least others → IsBelowAll least (union_of ids others)
IsBelowAll-union least [] others below above = above
IsBelowAll-union least (id ∷ ids) others below above =
    IsBelowAll-with_id least (union_of ids others) id below.0 (IsBelowAll-union least ids others below.1 above)

pub IsAscending-union : (ids others : List ℕ) → IsAscending others → IsAscending (union_of ids others)
IsAscending-union [] others ascending = ascending
IsAscending-union (id ∷ ids) others ascending = IsAscending-with_id (union_of ids others) id (IsAscending-union ids others ascending)

-- ---- the union by its least id
pub union_of-left : (id : ℕ) (ids others : List ℕ) → IsBelowAll id ids → IsBelowAll id others → union_of (id ∷ ids) others ≡ id ∷ union_of ids others
union_of-left id ids others below above = with_id-below (union_of ids others) id (IsBelowAll-union id ids others below above)

pub union_of-right : (id : ℕ) (ids others : List ℕ) → IsBelowAll id ids → union_of ids (id ∷ others) ≡ id ∷ union_of ids others
union_of-right id [] others below = refl
union_of-right id (next ∷ ids) others below =
    rw (union_of-right id ids others below.1) (with_id-later id (union_of ids others) next below.0)

pub union_of-both : (id : ℕ) (ids others : List ℕ) → IsBelowAll id ids → union_of (id ∷ ids) (id ∷ others) ≡ id ∷ union_of ids others
union_of-both id ids others below = rw (union_of-right id ids others below) (with_id-first id (union_of ids others))

pub union_of-nothing : (ids : List ℕ) → IsAscending ids → union_of ids [] ≡ ids
union_of-nothing [] ascending = refl
union_of-nothing (id ∷ ids) ascending = rw (union_of-nothing ids ascending.1) (with_id-below ids id ascending.0)

-- ---- two lists merged from their fronts
pub IsAscending-drop : (i : ℕ) (ids : List ℕ) → IsAscending ids → IsAscending (drop i ids)
IsAscending-drop zero ids ascending = ascending
IsAscending-drop (suc i) [] ascending = tt
IsAscending-drop (suc i) (id ∷ ids) ascending = IsAscending-drop i ids ascending.1

-- the least id of the two fronts comes first in their union, and leaves each list that has it
union_of-fronts : (x y : ℕ) (xs ys : List ℕ) → IsAscending (x ∷ xs) → IsAscending (y ∷ ys)
    → union_of (x ∷ xs) (y ∷ ys) ≡ min x y ∷ union_of (cond (nat_le x y) xs (x ∷ xs)) (cond (nat_le y x) ys (y ∷ ys))
union_of-fronts x y xs ys left right =
    elim (cases_order x y) [
      | inl same ↦ rw (le-leb x y (omega arith), le-leb y x (omega arith), min-eq_left {n = x} {m = y} (omega arith), ← same) (union_of-both x xs ys left.0)
      | inr (inl less) ↦
          let h : x < y = less in
          rw (le-leb x y (omega arith), lt-leb y x h, min-eq_left {n = x} {m = y} (omega arith))
          (union_of-left x xs (y ∷ ys) left.0 (h, IsBelowAll-below x y ys h right.0))
      | inr (inr more) ↦
          let h : y < x = more in
          rw (lt-leb x y h, le-leb y x (omega arith), min-eq_right {n = y} {m = x} (omega arith))
          (union_of-right y (x ∷ xs) ys (h, IsBelowAll-below y x xs h left.0))
    ]

-- a list from a place on, or from the next place on
drop-step : (b : Bool) (i : ℕ) (xs : List ℕ) (x : ℕ) → i < length xs → x ≡ get_or xs i 0
    → drop (i + from_bool b) xs ≡ cond b (drop (suc i) xs) (x ∷ drop (suc i) xs)
drop-step true i xs x inside is = rw add-one refl
drop-step false i xs x inside is = rw add-zero (drop-cons xs i 0 inside ∙ ap (λ first. first ∷ drop (suc i) xs) (sym is))

-- one turn of merging
pub merge-turn : (all both more xs ys : List ℕ) (i j x y least step other : ℕ)
    → IsAscending xs → IsAscending ys
    → i < length xs → j < length ys
    → x ≡ get_or xs i 0 → y ≡ get_or ys j 0
    → least ≡ min x y → step ≡ from_bool (nat_le x y) → other ≡ from_bool (nat_le y x)
    → more ≡ both ++ least ∷ []
    → both ++ union_of (drop i xs) (drop j ys) ≡ all
    → more ++ union_of (drop (i + step) xs) (drop (j + other) ys) ≡ all
merge-turn all both more xs ys i j x y least step other left right inside within is_x is_y is_least is_step is_other is_more before =
    let xs_is : drop i xs ≡ x ∷ drop (suc i) xs = drop-cons xs i 0 inside ∙ ap (λ first. first ∷ drop (suc i) xs) (sym is_x) in
    let ys_is : drop j ys ≡ y ∷ drop (suc j) ys = drop-cons ys j 0 within ∙ ap (λ first. first ∷ drop (suc j) ys) (sym is_y) in
    let front = union_of-fronts x y (drop (suc i) xs) (drop (suc j) ys)
    (subst IsAscending xs_is (IsAscending-drop i xs left)) (subst IsAscending ys_is (IsAscending-drop j ys right)) in
    rw (is_more, is_least, is_step, is_other, drop-step (nat_le x y) i xs x inside is_x, drop-step (nat_le y x) j ys y within is_y, append_assoc)
    (ap (λ rest. both ++ rest) (sym front) ∙ (rw (xs_is, ys_is) at before))

-- the step of a list that has the least id stays within the list
pub step-inside : (b : Bool) (i n : ℕ) → i < n → i + from_bool b ≤ n
step-inside true i n inside = omega arith
step-inside false i n inside = omega arith

drop-rest : (i : ℕ) (xs : List ℕ) → take (length xs - i) (drop i xs) ≡ drop i xs
drop-rest i xs = rw (← length-drop i xs) (take-length (drop i xs))

-- after the last turn one list is used up, and the other's rest is left
pub merge-end : (all both xs ys : List ℕ) (i j : ℕ) → IsAscending xs
    → (length xs ≤ i) ⊎ (length ys ≤ j)
    → both ++ union_of (drop i xs) (drop j ys) ≡ all
    → (both ++ take (length xs - i) (drop i xs)) ++ take (length ys - j) (drop j ys) ≡ all
merge-end all both xs ys i j left (inl past) before =
    let none : drop i xs ≡ [] = drop_all i xs past in
    rw (drop-rest i xs, drop-rest j ys, none, append-nil) (rw none at before)
merge-end all both xs ys i j left (inr past) before =
    let none : drop j ys ≡ [] = drop_all j ys past in
    rw (drop-rest i xs, drop-rest j ys, none, append-nil)
    (rw (none, union_of-nothing (drop i xs) (IsAscending-drop i xs left)) at before)

-- ---- where an id is, or belongs
pub found-place : (ids : List ℕ) (id : ℕ) (r : Result ℕ ℕ) → IsAscending ids → IsBinarySearchResult (λ y. nat_cmp y id) ids r
    → IfOk r (λ at. (has_id ids id ≡ true) × (with_id ids id ≡ ids))
found-place ids id (Ok at) ascending found =
    let is : (at < length ids) × (get_or ids at 0 ≡ id) = searched ids id (Ok at) found (λ i j. get_or-rises ids i j ascending) in
    (has_id-there ids id at is.0 is.1, with_id-there ids id at ascending is.0 is.1)
found-place ids id (Err at) ascending found = tt

new-place : (ids : List ℕ) (id at : ℕ)
    → (at ≤ length ids) × ((k : ℕ) → k < at → get_or ids k 0 < id) × ((k : ℕ) → at ≤ k → k < length ids → id < get_or ids k 0)
    → (at ≤ length ids) × (has_id ids id ≡ false) × (with_id ids id ≡ insert ids at id)
new-place ids id at is = (
  is.0,
  has_id-absent ids id (λ k inside e. elim (cases_order k at) [
    | inl same ↦ (let above = is.2 k (omega arith) inside in omega (arith, above, e))
    | inr (inl less) ↦ (let below = is.1 k less in omega (arith, below, e))
    | inr (inr more) ↦ (let above = is.2 k (let h : at < k = more in omega arith) inside in omega (arith, above, e))
  ]),
  with_id-between ids id at is.0 is.1 is.2,
)

pub absent-place : (ids : List ℕ) (id : ℕ) (r : Result ℕ ℕ) → IsAscending ids → IsBinarySearchResult (λ y. nat_cmp y id) ids r
    → IfErr r (λ at. (at ≤ length ids) × (has_id ids id ≡ false) × (with_id ids id ≡ insert ids at id))
absent-place ids id (Ok at) ascending found = tt
absent-place ids id (Err at) ascending found = new-place ids id at (searched ids id (Err at) found (λ i j. get_or-rises ids i j ascending))

-- an id above the last
pub end-place : (ids : List ℕ) (id : ℕ) → IsAscending ids → (0 < length ids → get_or ids (length ids - 1) 0 < id)
    → (length ids ≤ length ids) × (has_id ids id ≡ false) × (with_id ids id ≡ insert ids (length ids) id)
end-place ids id ascending above =
    new-place ids id (length ids) (omega arith, λ k inside. (let last = get_or-rises ids k (length ids - 1) ascending (omega arith) (omega arith) in let less = above (omega arith) in omega (arith, last, less)), λ k past inside. absurd (omega arith))

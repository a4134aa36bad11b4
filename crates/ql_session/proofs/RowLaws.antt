-- Lists by an index: what stands where after one of them changed, and after an empty one was put behind.
use Rattle.std.proofs.Common.{◌≡◌, ℕ, Bool, true, false, Result, Ok, Err, OnErr, zero, suc, ◌<◌, ◌-◌, cond, nat_eq, List, Vec, [], ◌∷◌, ◌++◌, length, get_or, take, ◌⊎◌, refl, ap, sym, ◌∙◌, inl, inr, arith}
use Rattle.std.specs.Global.{Global}
use Rattle.std.proofs.Math.ListN.{set}
use Rattle.std.proofs.Math.Seq.{take-append_seam}
use Rattle.std.proofs.lemmas.List.{get_or-set_same, get_or-set_other, get_or-map, length-map, map-set, length-append}
use Rattle.std.proofs.lemmas.Bool.{cases_eq, eq-eqb, ne_eqb}
use Rattle.ql_session.specs.Rows.{lists_of}

-- an empty one behind changes nothing
pub get_or-grown : {A : Type 0} (xs : List A) (q : ℕ) (d : A) → get_or (xs ++ d ∷ []) q d ≡ get_or xs q d
get_or-grown [] zero d = refl
get_or-grown [] (suc q) d = refl
get_or-grown (x ∷ xs) zero d = refl
get_or-grown (x ∷ xs) (suc q) d = get_or-grown xs q d

-- one of them is another
pub get_or-set : {A : Type 0} (xs : List A) (k q : ℕ) (x d : A) → k < length xs → get_or (set xs k x) q d ≡ cond (nat_eq k q) x (get_or xs q d)
get_or-set xs k q x d inside = elim (cases_eq k q) [
  | inl same ↦ rw (eq-eqb k q same, ← same) (get_or-set_same xs k x d inside)
  | inr other ↦ rw (ne_eqb k q other) (get_or-set_other xs k q x d (λ e. other (sym e)))
]

-- one list is what f makes of it
pub row-changed : (f : List ℕ → List ℕ) (rows : List (Vec ℕ Global)) (k q : ℕ) (row was : Vec ℕ Global)
    → k < length rows → was ≡ get_or rows k was → row.items ≡ f was.items
    → get_or (lists_of (set rows k row)) q [] ≡ cond (nat_eq k q) (f (get_or (lists_of rows) q [])) (get_or (lists_of rows) q [])
row-changed f rows k q row was inside is made =
    let lists = map-set (λ (v : Vec ℕ Global). v.items) rows k row in
    let within : k < length (lists_of rows) = omega (arith, length-map rows (λ (v : Vec ℕ Global). v.items)) in
    let here : was.items ≡ get_or (lists_of rows) k [] = ap (λ (v : Vec ℕ Global). v.items) is ∙ sym (get_or-map (λ (v : Vec ℕ Global). v.items) rows k was [] inside) in
    rw lists (get_or-set (lists_of rows) k q row.items [] within ∙ by here (cases_eq k q))
  where
    by : was.items ≡ get_or (lists_of rows) k [] → (k ≡ q) ⊎ (k ≡ q → ⊥)
        → cond (nat_eq k q) row.items (get_or (lists_of rows) q []) ≡ cond (nat_eq k q) (f (get_or (lists_of rows) q [])) (get_or (lists_of rows) q [])
    by here (inl same) = rw (eq-eqb k q same, ← same) (made ∙ ap f here)
    by here (inr other) = rw (ne_eqb k q other) refl

-- one list is as it was
pub row-kept : (rows : List (Vec ℕ Global)) (k q : ℕ) (row was : Vec ℕ Global)
    → k < length rows → was ≡ get_or rows k was → row.items ≡ was.items
    → get_or (lists_of (set rows k row)) q [] ≡ get_or (lists_of rows) q []
row-kept rows k q row was inside is same = row-changed (λ list. list) rows k q row was inside is same ∙ either (nat_eq k q) (get_or (lists_of rows) q [])
  where
    either : (b : Bool) (list : List ℕ) → cond b list list ≡ list
    either true list = refl
    either false list = refl

-- what holds anyway holds after a failure
pub on_err : {E : Type 0} (P : Type 0) (r : Result (Unit {0}) E) → P → OnErr r P
on_err P (Ok u) is = tt
on_err P (Err e) is = is

-- the last goes away again
pub take-pushed : (ns : List ℕ) (n : ℕ) → take (length (ns ++ n ∷ []) - 1) (ns ++ n ∷ []) ≡ ns
take-pushed ns n =
    let count : length (ns ++ n ∷ []) - 1 ≡ length ns = omega (arith, length-append ns (n ∷ [])) in
    rw count (take-append_seam ns (n ∷ []))

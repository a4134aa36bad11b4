-- The numbers of names, by first occurrence.
use Rattle.std.proofs.Common.{◌≡◌, ◌<◌, ◌+◌, ℕ, suc, Bool, true, false, cond, ◌||◌, nat_eq, if◌then◌else◌, List, [], ◌∷◌, ◌++◌, length, arith, refl, sym, ap, subst, ◌∙◌, lt-ltb, append-nil, append_assoc}
use Rattle.std.specs.Bool.{Decides}
use Rattle.std.specs.List.{position_or_len}
use Rattle.std.specs.Str.{bytes_eq}
use Rattle.std.proofs.lemmas.Bool.Decides.{Decides-eqb, same_from_decides}
use Rattle.std.proofs.lemmas.List.Folds.{list_any-append}
use Rattle.std.proofs.lemmas.List.Recursion.{is_position_or_len}
use Rattle.std.proofs.lemmas.Slice.Eq.{bytes_eq-Decides}
use Rattle.ql_base.specs.Numbering.{has_name, with_name}
use Rattle.ql_typing.specs.Resolved.{number_in}
use Rattle.ql_holds_files.specs.Questions.{with_names}

-- ---- the index of a name that is there

abbrev index_in : List (List ℕ) → List ℕ → ℕ
index_in [] w = 0
index_in (v ∷ vs) w = cond (bytes_eq w v) 0 (1 + index_in vs w)

below : (names : List (List ℕ)) (w : List ℕ) → has_name names w ≡ true → index_in names w < length names
below [] w has = absurd cc
below (v ∷ vs) w has =
    let P : Bool → Type 0 = λ t. (t || has_name vs w) ≡ true → cond t 0 (1 + index_in vs w) < suc (length vs) in
    elim (bytes_eq w v) as P [ true ↦ λ h. omega arith | false ↦ λ h. omega (arith, below vs w h) ] has

number_is : (names : List (List ℕ)) (w : List ℕ) → has_name names w ≡ true → number_in names w ≡ index_in names w
number_is names w has =
    let is = is_position_or_len (λ ns. index_in ns w) (bytes_eq w) refl (λ v vs. refl) names in
    let less : position_or_len (bytes_eq w) names < length names = omega (arith, is, below names w has) in
    rw (lt-ltb _ _ less) (sym is)

index_front : (names more : List (List ℕ)) (w : List ℕ) → has_name names w ≡ true → index_in (names ++ more) w ≡ index_in names w
index_front [] more w has = absurd cc
index_front (v ∷ vs) more w has =
    let P : Bool → Type 0 = λ t. (t || has_name vs w) ≡ true → cond t 0 (1 + index_in (vs ++ more) w) ≡ cond t 0 (1 + index_in vs w) in
    elim (bytes_eq w v) as P [ true ↦ λ h. refl | false ↦ λ h. ap (λ n. 1 + n) (index_front vs more w h) ] has

-- names with one index are the same
one_index_here : (n v w : List ℕ) (ns : List (List ℕ)) → (has_name ns v ≡ true → has_name ns w ≡ true → index_in ns v ≡ index_in ns w → v ≡ w)
    → (s t : Bool) → bytes_eq v n ≡ s → bytes_eq w n ≡ t → (s || has_name ns v) ≡ true → (t || has_name ns w) ≡ true
    → cond s 0 (1 + index_in ns v) ≡ cond t 0 (1 + index_in ns w) → v ≡ w
one_index_here n v w ns later true true a b p q e = (bytes_eq-Decides v n).0 a ∙ sym ((bytes_eq-Decides w n).0 b)
one_index_here n v w ns later true false a b p q e = absurd (omega (arith, e))
one_index_here n v w ns later false true a b p q e = absurd (omega (arith, e))
one_index_here n v w ns later false false a b p q e = later p q (omega (arith, e))

one_index : (names : List (List ℕ)) (v w : List ℕ) → has_name names v ≡ true → has_name names w ≡ true → index_in names v ≡ index_in names w → v ≡ w
one_index [] v w p q e = absurd cc
one_index (n ∷ ns) v w p q e = one_index_here n v w ns (one_index ns v w) (bytes_eq v n) (bytes_eq w n) refl refl p q e

-- ---- more names

has_front : (names more : List (List ℕ)) (w : List ℕ) → has_name names w ≡ true → has_name (names ++ more) w ≡ true
has_front names more w has = list_any-append (bytes_eq w) names more ∙ rw has refl

pub has_itself : (names : List (List ℕ)) (w : List ℕ) → has_name (with_name names w) w ≡ true
has_itself names w = by (has_name names w) refl
  where
    by : (b : Bool) → has_name names w ≡ b → has_name (if b then names else names ++ w ∷ []) w ≡ true
    by true e = e
    by false e = list_any-append (bytes_eq w) names (w ∷ []) ∙ rw (e, (bytes_eq-Decides w w).1 refl) refl

grows_one : (names : List (List ℕ)) (w : List ℕ) → (more : List (List ℕ)) × (with_name names w ≡ names ++ more)
grows_one names w = by (has_name names w)
  where
    by : (b : Bool) → (more : List (List ℕ)) × ((if b then names else names ++ w ∷ []) ≡ names ++ more)
    by true = ([], sym (append-nil names))
    by false = (w ∷ [], refl)

grows : (names ws : List (List ℕ)) → (more : List (List ℕ)) × (with_names names ws ≡ names ++ more)
grows names [] = ([], sym (append-nil names))
grows names (w ∷ ws) =
    let one = grows_one names w in
    let rest = grows (with_name names w) ws in
    (one.0 ++ rest.0, rest.1 ∙ ap (λ ns. ns ++ rest.0) one.1 ∙ append_assoc names one.0 rest.0)

pub has_kept : (names ws : List (List ℕ)) (w : List ℕ) → has_name names w ≡ true → has_name (with_names names ws) w ≡ true
has_kept names ws w has = let g = grows names ws in ap (λ ns. has_name ns w) g.1 ∙ has_front names g.0 w has

-- a name keeps its number
pub number_kept : (names ws : List (List ℕ)) (w : List ℕ) → has_name names w ≡ true → number_in (with_names names ws) w ≡ number_in names w
number_kept names ws w has =
    let g = grows names ws in
    ap (λ ns. number_in ns w) g.1 ∙ number_is (names ++ g.0) w (has_front names g.0 w has) ∙ index_front names g.0 w has ∙ sym (number_is names w has)

-- each of the names is there
pub has_each : (names ws : List (List ℕ)) (w : List ℕ) → has_name ws w ≡ true → has_name (with_names names ws) w ≡ true
has_each names [] w has = absurd cc
has_each names (v ∷ vs) w has =
    let P : Bool → Type 0 = λ t. bytes_eq w v ≡ t → (t || has_name vs w) ≡ true → has_name (with_names (with_name names v) vs) w ≡ true in
    elim (bytes_eq w v) as P [
      | true ↦ λ same h. has_kept (with_name names v) vs w (subst (λ u. has_name (with_name names v) u ≡ true) (sym ((bytes_eq-Decides w v).0 same)) (has_itself names v))
      | false ↦ λ other h. has_each (with_name names v) vs w h
    ] refl has

-- ---- numbers tell names apart

one_number : (names : List (List ℕ)) (v w : List ℕ) → has_name names v ≡ true → has_name names w ≡ true → number_in names v ≡ number_in names w → v ≡ w
one_number names v w p q e = one_index names v w p q (sym (number_is names v p) ∙ e ∙ number_is names w q)

pub same_number : (names : List (List ℕ)) (v w : List ℕ) → has_name names v ≡ true → nat_eq (number_in names v) (number_in (with_name names w) w) ≡ bytes_eq v w
same_number names v w has =
    let all = with_name names w in
    let kept : number_in all v ≡ number_in names v = number_kept names (w ∷ []) v has in
    let decides : Decides (nat_eq (number_in names v) (number_in all w)) (v ≡ w) = (
      (λ h. one_number all v w (has_kept names (w ∷ []) v has) (has_itself names w) (kept ∙ (Decides-eqb _ _).0 h)),
      (λ e. (Decides-eqb _ _).1 (sym kept ∙ ap (number_in all) e)),
    ) in
    same_from_decides (nat_eq (number_in names v) (number_in all w)) (bytes_eq v w) decides (bytes_eq-Decides v w)

-- A name keeps its number when more names come after it.
use Rattle.std.proofs.Common.{◌≡◌, ◌<◌, ◌+◌, ℕ, suc, Bool, true, false, cond, ◌||◌, if◌then◌else◌, List, [], ◌∷◌, ◌++◌, length, arith, refl, sym, ap, ◌∙◌, lt-ltb, append-nil, append_assoc}
use Rattle.std.specs.List.{fold, position_or_len}
use Rattle.std.specs.Str.{bytes_eq}
use Rattle.std.proofs.lemmas.List.Folds.{list_any-append}
use Rattle.std.proofs.lemmas.List.Recursion.{is_position_or_len}
use Rattle.std.proofs.lemmas.Slice.Eq.{bytes_eq-Decides}
use Rattle.ql_base.specs.Numbering.{has_name, with_name}
use Rattle.ql_typing.specs.Resolved.{number_in}

-- ---- the index of a name that is there

abbrev index_in : List (List ℕ) → List ℕ → ℕ
index_in [] w = 0
index_in (v ∷ vs) w = cond (bytes_eq w v) 0 (1 + index_in vs w)

below : (names : List (List ℕ)) (w : List ℕ) → has_name names w ≡ true → index_in names w < length names
below [] w has = absurd cc
below (v ∷ vs) w has =
    let P : Bool → Type 0 = λ t. (t || has_name vs w) ≡ true → cond t 0 (1 + index_in vs w) < suc (length vs) in
    elim (bytes_eq w v) as P [ true ↦ λ h. omega arith | false ↦ λ h. omega (arith, below vs w h) ] has

number_is : (names : List (List ℕ)) (w : List ℕ) → has_name names w ≡ true → number_in names w ≡ index_in names w
number_is names w has =
    let is = is_position_or_len (λ ns. index_in ns w) (bytes_eq w) refl (λ v vs. refl) names in
    let less : position_or_len (bytes_eq w) names < length names = omega (arith, is, below names w has) in
    rw (lt-ltb _ _ less) (sym is)

index_front : (names more : List (List ℕ)) (w : List ℕ) → has_name names w ≡ true → index_in (names ++ more) w ≡ index_in names w
index_front [] more w has = absurd cc
index_front (v ∷ vs) more w has =
    let P : Bool → Type 0 = λ t. (t || has_name vs w) ≡ true → cond t 0 (1 + index_in (vs ++ more) w) ≡ cond t 0 (1 + index_in vs w) in
    elim (bytes_eq w v) as P [ true ↦ λ h. refl | false ↦ λ h. ap (λ n. 1 + n) (index_front vs more w h) ] has

-- ---- more names

has_front : (names more : List (List ℕ)) (w : List ℕ) → has_name names w ≡ true → has_name (names ++ more) w ≡ true
has_front names more w has = list_any-append (bytes_eq w) names more ∙ rw has refl

has_itself : (names : List (List ℕ)) (w : List ℕ) → has_name (with_name names w) w ≡ true
has_itself names w = by (has_name names w) refl
  where
    by : (b : Bool) → has_name names w ≡ b → has_name (if b then names else names ++ w ∷ []) w ≡ true
    by true e = e
    by false e = list_any-append (bytes_eq w) names (w ∷ []) ∙ rw (e, (bytes_eq-Decides w w).1 refl) refl

grows_one : (names : List (List ℕ)) (w : List ℕ) → (more : List (List ℕ)) × (with_name names w ≡ names ++ more)
grows_one names w = by (has_name names w)
  where
    by : (b : Bool) → (more : List (List ℕ)) × ((if b then names else names ++ w ∷ []) ≡ names ++ more)
    by true = ([], sym (append-nil names))
    by false = (w ∷ [], refl)

grows : (names ws : List (List ℕ)) → (more : List (List ℕ)) × (fold with_name names ws ≡ names ++ more)
grows names [] = ([], sym (append-nil names))
grows names (w ∷ ws) =
    let one = grows_one names w in
    let rest = grows (with_name names w) ws in
    (one.0 ++ rest.0, rest.1 ∙ ap (λ ns. ns ++ rest.0) one.1 ∙ append_assoc names one.0 rest.0)

-- the number of a name that was just read is the same in the end
pub number_kept : (names ws : List (List ℕ)) (w : List ℕ) → number_in (fold with_name (with_name names w) ws) w ≡ number_in (with_name names w) w
number_kept names ws w =
    let known = with_name names w in
    let has = has_itself names w in
    let g = grows known ws in
    ap (λ ns. number_in ns w) g.1 ∙ number_is (known ++ g.0) w (has_front known g.0 w has) ∙ index_front known g.0 w has ∙ sym (number_is known w has)

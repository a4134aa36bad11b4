-- The names of the generated objects differ, and their numbers ascend.
use Rattle.std.proofs.Common.{◌≡◌, ℕ, zero, suc, ◌+◌, ◌*◌, ◌<◌, ◌≤◌, ◌^◌, Bool, true, false, ◌||◌, List, [], ◌∷◌, ◌++◌, codes, decimal, get_or, length, take, refl, sym, ap, ◌∙◌, arith, add-one, append_assoc, length-append}
use Rattle.std.specs.Str.{bytes_eq}
use Rattle.std.proofs.lemmas.Fmt.{decimal_digit, decimal_injective, length-decimal-le}
use Rattle.std.proofs.lemmas.List.{append_cancel_left}
use Rattle.std.proofs.lemmas.List.Folds.{list_any-append}
use Rattle.std.proofs.lemmas.Slice.Eq.{bytes_eq-Decides}
use Rattle.std.proofs.Math.Seq.{take-append_seam}
use Rattle.ql_base.specs.IdLists.{with_id}
use Rattle.ql_base.specs.Numbering.{has_name, with_name}
use Rattle.ql_base.proofs.IdLemmas.{with_id-later}
use Rattle.ql_gen.specs.Objects.{first_objects, drawn_object_name, drawn_object_names}

pub parts : (i k : ℕ) → drawn_object_name i k ≡ codes "o" ++ (decimal i ++ (codes "_" ++ decimal k))
parts i k = append_assoc (codes "o" ++ decimal i) (codes "_") (decimal k) ∙ append_assoc (codes "o") (decimal i) (codes "_" ++ decimal k)

same_before : (xs ys s t : List ℕ) → length s ≡ length t → xs ++ s ≡ ys ++ t → xs ≡ ys
same_before xs ys s t ends same =
    let long : length xs ≡ length ys = omega (arith, ends, ap length same, length-append xs s, length-append ys t) in
    sym (take-append_seam xs s) ∙ ap (take (length xs)) same ∙ ap (λ (n : ℕ). take n (ys ++ t)) long ∙ take-append_seam ys t

tail_length : (a : ℕ) → a < 10 → length (codes "_" ++ decimal a) ≡ 2
tail_length a less = ap (λ (d : List ℕ). suc (length d)) (decimal_digit a less)

-- objects of two types
types_differ : (i j a b : ℕ) → i < j → j < 2 ^ 32 → a < 10 → b < 10 → drawn_object_name j b ≡ drawn_object_name i a → ⊥
types_differ i j a b less few is_a is_b same =
    let behind = append_cancel_left (codes "o") (decimal j ++ (codes "_" ++ decimal b)) (decimal i ++ (codes "_" ++ decimal a)) (sym (parts j b) ∙ same ∙ parts i a) in
    let numbers : decimal j ≡ decimal i = same_before (decimal j) (decimal i) (codes "_" ++ decimal b) (codes "_" ++ decimal a) (tail_length b is_b ∙ sym (tail_length a is_a)) behind in
    omega (arith, less, decimal_injective j i (omega (arith, few)) (omega (arith, less, few)) numbers)

not_true : (t : Bool) → (t ≡ true → ⊥) → t ≡ false
not_true true other = absurd (other refl)
not_true false _ = refl

not_equal : (v w : List ℕ) → (v ≡ w → ⊥) → bytes_eq v w ≡ false
not_equal v w other = not_true (bytes_eq v w) (λ t. other ((bytes_eq-Decides v w).0 t))

-- an object of a later type is new
pub absent : (n j b : ℕ) → n ≤ j → j < 2 ^ 32 → b < 10 → has_name (drawn_object_names n) (drawn_object_name j b) ≡ false
unfolding drawn_object_names
absent zero j b later few is_b = refl
absent (suc i) j b later few is_b =
    let w = drawn_object_name j b in
    let first : bytes_eq w (drawn_object_name i 0) ≡ false = not_equal w (drawn_object_name i 0) (types_differ i j 0 b (omega (arith, later)) few (omega arith) is_b) in
    let second : bytes_eq w (drawn_object_name i 1) ≡ false = not_equal w (drawn_object_name i 1) (types_differ i j 1 b (omega (arith, later)) few (omega arith) is_b) in
    list_any-append (bytes_eq w) (drawn_object_names i) (drawn_object_name i 0 ∷ drawn_object_name i 1 ∷ [])
    ∙ ap (λ (t : Bool). t || (bytes_eq w (drawn_object_name i 0) || (bytes_eq w (drawn_object_name i 1) || false))) (absent i j b (omega (arith, later)) few is_b)
    ∙ ap (λ (t : Bool). t || (bytes_eq w (drawn_object_name i 1) || false)) first ∙ ap (λ (t : Bool). t || false) second

no_same : codes "_1" ≡ codes "_0" → ⊥
no_same same = omega (arith, ap (λ (w : List ℕ). get_or w 1 0) same)

-- the two objects of a type differ
two_differ : (i : ℕ) → drawn_object_name i 1 ≡ drawn_object_name i 0 → ⊥
two_differ i same =
    let behind = append_cancel_left (codes "o") (decimal i ++ (codes "_" ++ decimal 1)) (decimal i ++ (codes "_" ++ decimal 0)) (sym (parts i 1) ∙ same ∙ parts i 0) in
    let ends = append_cancel_left (decimal i) (codes "_" ++ decimal 1) (codes "_" ++ decimal 0) behind in
    no_same (ap (λ (d : List ℕ). codes "_" ++ d) (sym (decimal_digit 1 (omega arith))) ∙ ends ∙ ap (λ (d : List ℕ). codes "_" ++ d) (decimal_digit 0 (omega arith)))

pub absent_second : (i : ℕ) → i < 2 ^ 32 → has_name (drawn_object_names i ++ drawn_object_name i 0 ∷ []) (drawn_object_name i 1) ≡ false
absent_second i few =
    let w = drawn_object_name i 1 in
    list_any-append (bytes_eq w) (drawn_object_names i) (drawn_object_name i 0 ∷ [])
    ∙ ap (λ (t : Bool). t || (bytes_eq w (drawn_object_name i 0) || false)) (absent i i 1 (omega arith) few (omega arith))
    ∙ ap (λ (t : Bool). t || false) (not_equal w (drawn_object_name i 0) (two_differ i))

pub length_names : (n : ℕ) → length (drawn_object_names n) ≡ n + n
unfolding drawn_object_names
length_names zero = refl
length_names (suc i) = omega (arith, length_names i, length-append (drawn_object_names i) (drawn_object_name i 0 ∷ drawn_object_name i 1 ∷ []))

pub name_short : (i k : ℕ) → i < 2 ^ 32 → k < 10 → length (drawn_object_name i k) ≤ 32
name_short i k is_i is_k =
    let long : length (drawn_object_name i k) ≡ suc (length (decimal i ++ (codes "_" ++ decimal k))) = ap length (parts i k) in
    omega (arith, long, length-decimal-le 10 i (omega arith) (omega (arith, is_i)) (omega (arith, is_i)), length-append (decimal i) (codes "_" ++ decimal k), tail_length k is_k)

-- ---- two names more

names_step : (i : ℕ) → drawn_object_names (i + 1) ≡ drawn_object_names i ++ drawn_object_name i 0 ∷ drawn_object_name i 1 ∷ []
unfolding drawn_object_names
names_step i = rw (add-one i) refl

module _ (i : ℕ) (few : i < 16) (names new : List (List ℕ)) (w : List ℕ) (put : new ≡ with_name names w) where
  pub first_put : names ≡ drawn_object_names i → w ≡ drawn_object_name i 0 → new ≡ drawn_object_names i ++ drawn_object_name i 0 ∷ []
  first_put before word =
      put ∙ ap (λ (ns : List (List ℕ)). with_name ns w) before ∙ ap (with_name (drawn_object_names i)) word ∙ rw (absent i i 0 (omega arith) (omega (arith, few)) (omega arith)) refl

  pub second_put : names ≡ drawn_object_names i ++ drawn_object_name i 0 ∷ [] → w ≡ drawn_object_name i 1 → new ≡ drawn_object_names (i + 1)
  second_put before word =
      put ∙ ap (λ (ns : List (List ℕ)). with_name ns w) before ∙ ap (with_name (drawn_object_names i ++ drawn_object_name i 0 ∷ [])) word ∙ rw (absent_second i (omega (arith, few))) refl
      ∙ append_assoc (drawn_object_names i) (drawn_object_name i 0 ∷ []) (drawn_object_name i 1 ∷ []) ∙ sym (names_step i)

-- ---- the first objects

abbrev pub AreBelow : List ℕ → ℕ → Type 0
AreBelow [] n = Unit {0}
AreBelow (a ∷ ids) n = (a < n) × AreBelow ids n

with_last : (ids : List ℕ) (id : ℕ) → AreBelow ids id → with_id ids id ≡ ids ++ id ∷ []
with_last [] id below = refl
with_last (a ∷ ids) id below = with_id-later a ids id below.0 ∙ ap (λ (rest : List ℕ). a ∷ rest) (with_last ids id below.1)

below_more : (ids : List ℕ) (id n : ℕ) → id < n → AreBelow ids id → AreBelow (ids ++ id ∷ []) n
below_more [] id n less below = (less, tt)
below_more (a ∷ ids) id n less below = (let first : a < id = below.0 in omega (arith, less, first), below_more ids id n less below.1)

pub first_below : (n : ℕ) → AreBelow (first_objects n) (2 * n)
unfolding first_objects
first_below zero = tt
first_below (suc i) = below_more (first_objects i) (2 * i) (2 * suc i) (omega arith) (first_below i)

pub next_first : (i : ℕ) → with_id (first_objects i) (2 * i) ≡ first_objects (suc i)
unfolding first_objects
next_first i = with_last (first_objects i) (2 * i) (first_below i)

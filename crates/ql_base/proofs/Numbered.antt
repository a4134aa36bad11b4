use Rattle.std.proofs.Common.{◌≡◌, ◌<◌, ◌≤◌, ◌+◌, ℕ, Bool, true, false, cond, ◌&&◌, nat_eq, List, [], ◌∷◌, ◌++◌, Option, None, Some, if◌then◌else◌, length, get_or, take, refl, sym, ◌∙◌, ap, arith, lt-ltb, ltb-false, eqb-true, is_some, nat_lt}
use Rattle.std.specs.List.{position_or_len}
use Rattle.std.specs.Str.{bytes_eq}
use Rattle.std.specs.Bool.{Decides}
use Rattle.std.specs.Cmp.Derive.{both_true}
use Rattle.std.proofs.lemmas.Slice.Eq.{bytes_eq-Decides}
use Rattle.std.proofs.lemmas.Bool.Decides.{Decides-eqb, same_from_decides}
use Rattle.std.proofs.lemmas.List.Folds.{position_or_len_push, list_any_none, list_any_at}
use Rattle.std.proofs.lemmas.List.Sums.{fails_before_first}
use Rattle.std.proofs.lemmas.List.Quantifiers.{position-Some}
use Rattle.std.proofs.Math.Seq.{take-append_seam}
use Rattle.ql_base.specs.Words.{padded}
use Rattle.ql_base.specs.Numbering.{AreNames, has_name, place, with_name}
use Rattle.ql_base.specs.contracts.word.WordPartialEq.TheImpl.{eq-value}

and_left : (s t : Bool) → (s && t) ≡ true → s ≡ true
and_left true t h = refl
and_left false t h = h

and_right : (s t : Bool) → (s && t) ≡ true → t ≡ true
and_right true t h = h
and_right false t h = cc

-- rows of equal bytes and equal lengths have equal names
same_names : (a b : List ℕ) → padded a ≡ padded b → length a ≡ length b → a ≡ b
same_names a b rows lengths = sym (take-append_seam a _) ∙ (λ i. take (lengths i) (rows i)) ∙ take-append_seam b _

-- `==` on names tells whether they have the same bytes
word_eq-decides : (a b : List ℕ) → Decides (bytes_eq (padded a) (padded b) && nat_eq (length a) (length b)) (a ≡ b)
word_eq-decides a b = (
  (λ h. same_names a b ((bytes_eq-Decides _ _).0 (and_left _ _ h)) ((Decides-eqb _ _).0 (and_right (bytes_eq (padded a) (padded b)) _ h))),
  (λ e. both_true ((bytes_eq-Decides _ _).1 (ap padded e)) ((Decides-eqb _ _).1 (ap length e))),
)

word_eq-at : (a b : List ℕ) → eq-value.it a b ≡ bytes_eq a b
word_eq-at a b = same_from_decides (bytes_eq (padded a) (padded b) && nat_eq (length a) (length b)) (bytes_eq a b) (word_eq-decides a b) (bytes_eq-Decides a b)

-- `==` on names compares their bytes
pub word_eq : eq-value.it ≡ bytes_eq
word_eq = λ i a b. word_eq-at a b i

-- a name that is none of the list has no place there
pub no_place : (names : List (List ℕ)) (w : List ℕ) → ((k : ℕ) (d : List ℕ) → k < length names → ¬ w ≡ get_or names k d) → None ≡ place names w
no_place names w other = by (place names w) refl
  where
    by : (r : Option ℕ) → place names w ≡ r → None ≡ r
    by None e = refl
    by (Some k) e =
        let at = position-Some (bytes_eq w) names k [] e in
        absurd (other k [] at.0 ((bytes_eq-Decides w (get_or names k [])).0 at.1))

-- no name is empty
pub none_empty : (names : List (List ℕ)) (w : List ℕ) → AreNames names → length w ≡ 0 → None ≡ place names w
none_empty names w are empty = no_place names w (λ k d below e. omega (arith, are.some k d below, ap length e, empty))

-- no name has more than 32 bytes
pub none_long : (names : List (List ℕ)) (w : List ℕ) → AreNames names → 32 < length w → None ≡ place names w
none_long names w are long = no_place names w (λ k d below e. omega (arith, are.short k d below, ap length e, long))

-- the end of a list is where the list ends
at_end : (m n : ℕ) → cond (nat_eq m n) (n + 0) m ≡ m
at_end m n = by (nat_eq m n) refl
  where
    by : (b : Bool) → nat_eq m n ≡ b → cond b (n + 0) m ≡ m
    by true e = omega (arith, eqb-true m n e)
    by false e = refl

-- a name that is put in stands where the first of the list that equals it stands, or at the end
pub first-with_name : (names : List (List ℕ)) (w : List ℕ) → position_or_len (bytes_eq w) (with_name names w) ≡ position_or_len (bytes_eq w) names
first-with_name names w = by (has_name names w)
  where
    same : bytes_eq w w ≡ true
    same = (bytes_eq-Decides w w).1 refl

    by : (b : Bool) → position_or_len (bytes_eq w) (if b then names else names ++ w ∷ []) ≡ position_or_len (bytes_eq w) names
    by true = refl
    by false = position_or_len_push (bytes_eq w) names w ∙ rw same (at_end (position_or_len (bytes_eq w) names) (length names))

-- the place of a name that was put in
pub place-with_name : (names : List (List ℕ)) (w : List ℕ) → position_or_len (bytes_eq w) names < length (with_name names w) → place (with_name names w) w ≡ Some (position_or_len (bytes_eq w) names)
place-with_name names w below = rw (first-with_name names w) (rw (lt-ltb _ _ below) refl)

-- a name has a place exactly where the list has it
pub known-place : (names : List (List ℕ)) (w : List ℕ) → is_some (place names w) ≡ has_name names w
known-place names w = by (place names w) refl
  where
    at : ℕ
    at = position_or_len (bytes_eq w) names

    none : (b : Bool) → nat_lt at (length names) ≡ b → cond b (Some at) None ≡ None → length names ≤ at
    none true e h = cc
    none false e h = ltb-false _ _ e

    by : (r : Option ℕ) → place names w ≡ r → is_some r ≡ has_name names w
    by None e = sym (list_any_none (bytes_eq w) names (λ k d below. fails_before_first (bytes_eq w) names k d (omega (arith, none (nat_lt at (length names)) refl e))))
    by (Some k) e =
        let here = position-Some (bytes_eq w) names k [] e in
        sym (list_any_at (bytes_eq w) names k [] here.0 here.1)

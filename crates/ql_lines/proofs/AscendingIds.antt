-- ascending ids, and one more after them
use Rattle.std.proofs.Common.{◌≡◌, ℕ, zero, suc, ◌-◌, ◌<◌, ◌≤◌, List, [], ◌∷◌, ◌++◌, length, map, decimal, Some, refl, sym, ap, subst, ◌∙◌, arith}
use Rattle.std.specs.List.{slice_get, AllByRecursion}
use Rattle.std.proofs.lemmas.Bool.{lt-ltb, le-ltb}
use Rattle.std.proofs.lemmas.Fmt.{decimal_injective}
use Rattle.std.proofs.lemmas.Option.{same_Some}
use Rattle.ql_base.specs.IdLists.{IsBelowAll, IsAscending, with_id}
use Rattle.ql_lines.specs.Fields.{Fields, IsId}
use Rattle.ql_lines.proofs.Conses.{both, heads, tails}

-- an id is below each item of a list that it is below
below_item : (i : ℕ) (ids : List ℕ) (k y : ℕ) → IsBelowAll i ids → slice_get ids k ≡ Some y → i < y
below_item i [] k y below e = absurd cc
below_item i (j ∷ ids) zero y below e = let s = same_Some j y e in let lt = below.0 in omega (arith, s, lt)
below_item i (j ∷ ids) (suc k) y below e = below_item i ids k y below.1 e

pub below_push : (i : ℕ) (ids : List ℕ) (id : ℕ) → IsBelowAll i ids → i < id → IsBelowAll i (ids ++ id ∷ [])
below_push i [] id below less = (less, tt)
below_push i (j ∷ ids) id below less = (below.0, below_push i ids id below.1 less)

pub below_middle : (i : ℕ) (before : List ℕ) (id : ℕ) (ids : List ℕ) → IsBelowAll i (before ++ id ∷ ids) → i < id
below_middle i [] id ids below = below.0
below_middle i (b ∷ before) id ids below = below_middle i before id ids below.1

above : (i : ℕ) (ids : List ℕ) (id last : ℕ) → IsAscending (i ∷ ids) → slice_get (i ∷ ids) (length ids) ≡ Some last → last < id → IsAscending ((i ∷ ids) ++ id ∷ [])
above i [] id last up e less = let s = same_Some i last e in ((omega (arith, s, less), tt), (tt, tt))
above i (j ∷ ids) id last up e less =
    let under = below_item i (j ∷ ids) (length ids) last up.0 e in
    (below_push i (j ∷ ids) id up.0 (omega (arith, under, less)), above j ids id last up.1 e less)

-- an id above the last of ascending ids ascends after them
pub above_last : (ids : List ℕ) (id last : ℕ) → IsAscending ids → slice_get ids (length ids - 1) ≡ Some last → last < id → IsAscending (ids ++ id ∷ [])
above_last [] id last up e less = absurd cc
above_last (i ∷ ids) id last up e less =
    let k : length (i ∷ ids) - 1 ≡ length ids = omega arith in
    above i ids id last up (ap (slice_get (i ∷ ids)) (sym k) ∙ e) less

under : (i : ℕ) (ids : List ℕ) (id last : ℕ) → slice_get (i ∷ ids) (length ids) ≡ Some last → IsAscending ((i ∷ ids) ++ id ∷ []) → last < id
under i [] id last e up = let s = same_Some i last e in let less = up.0.0 in omega (arith, s, less)
under i (j ∷ ids) id last e up = under j ids id last e up.1

-- and only such a one
pub under_last : (ids : List ℕ) (id last : ℕ) → slice_get ids (length ids - 1) ≡ Some last → IsAscending (ids ++ id ∷ []) → last < id
under_last [] id last e up = absurd cc
under_last (i ∷ ids) id last e up =
    let k : length (i ∷ ids) - 1 ≡ length ids = omega arith in
    under i ids id last (ap (slice_get (i ∷ ids)) (sym k) ∙ e) up

-- it is put in at the end
pub with_id-end : (ids : List ℕ) (id : ℕ) → IsAscending (ids ++ id ∷ []) → with_id ids id ≡ ids ++ id ∷ []
with_id-end [] id up = refl
with_id-end (other ∷ ids) id up =
    let less : other < id = below_middle other ids id [] up.0 in
    rw (le-ltb id other (omega (arith, less)), lt-ltb other id less) (ap (λ (l : List ℕ). other ∷ l) (with_id-end ids id up.1))

below_front : (i : ℕ) (before : List ℕ) (id : ℕ) (ids : List ℕ) → IsBelowAll i (before ++ id ∷ ids) → IsBelowAll i (before ++ id ∷ [])
below_front i [] id ids below = (below.0, tt)
below_front i (b ∷ before) id ids below = (below.0, below_front i before id ids below.1)

-- a prefix of ascending ids ascends
pub ascending_front : (before : List ℕ) (id : ℕ) (ids : List ℕ) → IsAscending (before ++ id ∷ ids) → IsAscending (before ++ id ∷ [])
ascending_front [] id ids up = (tt, tt)
ascending_front (b ∷ before) id ids up = (below_front b before id ids up.0, ascending_front before id ids up.1)

-- ---- the fields of ids

-- ids that were read are the first of those that are spelled
split_ids : (ids seen : List ℕ) (rest : Fields) → AllByRecursion IsId ids → AllByRecursion IsId seen → map decimal ids ++ rest ≡ map decimal seen
    → (more : List ℕ) × (seen ≡ ids ++ more) × (rest ≡ map decimal more) × AllByRecursion IsId more
split_ids [] seen rest f g e = (seen, refl, e, g)
split_ids (x ∷ ids) [] rest f g e = absurd (omega (arith, ap length e))
split_ids (x ∷ ids) (y ∷ seen) rest f g e =
    let first = decimal_injective y x (omega (arith, g.0)) (omega (arith, f.0)) (sym (heads (decimal x) (decimal y) (map decimal ids ++ rest) (map decimal seen) e)) in
    let others = split_ids ids seen rest f.1 g.1 (tails (decimal x) (decimal y) (map decimal ids ++ rest) (map decimal seen) e) in
    (others.0, both y x seen (ids ++ others.0) first others.1, others.2, others.3)

module _ (ids : List ℕ) (small : AllByRecursion IsId ids) (fields rest : Fields) (read : fields ≡ map decimal ids ++ rest) where
  -- no ids are spelled where a next one doesn't ascend
  pub no_descent : (id : ℕ) (remaining : Fields) → IsId id → rest ≡ decimal id ∷ remaining → (IsAscending (ids ++ id ∷ []) → ⊥)
      → (seen : List ℕ) → AllByRecursion IsId seen → IsAscending seen → fields ≡ map decimal seen → ⊥
  no_descent id remaining is_id next none seen g up e = by (split_ids ids seen rest small g (sym read ∙ e))
    where
      by : (more : List ℕ) × (seen ≡ ids ++ more) × (rest ≡ map decimal more) × AllByRecursion IsId more → ⊥
      by ([], s, r, h) = omega (arith, ap length (sym next ∙ r))
      by (m ∷ more, s, r, h) =
          let same = decimal_injective m id (omega (arith, h.0)) (omega (arith, is_id)) (sym (heads (decimal id) (decimal m) remaining (map decimal more) (sym next ∙ r))) in
          none (ascending_front ids id more (subst (λ (n : ℕ). IsAscending (ids ++ n ∷ more)) same (subst IsAscending s up)))

  -- nor where a next field is no id
  pub no_other_field : (field : List ℕ) (remaining : Fields) → rest ≡ field ∷ remaining → ((n : ℕ) (remaining : Fields) → n ≤ 4294967295 → rest ≡ decimal n ∷ remaining → ⊥)
      → (seen : List ℕ) → AllByRecursion IsId seen → IsAscending seen → fields ≡ map decimal seen → ⊥
  no_other_field field remaining next none seen g up e = by (split_ids ids seen rest small g (sym read ∙ e))
    where
      by : (more : List ℕ) × (seen ≡ ids ++ more) × (rest ≡ map decimal more) × AllByRecursion IsId more → ⊥
      by ([], s, r, h) = omega (arith, ap length (sym next ∙ r))
      by (m ∷ more, s, r, h) = none m (map decimal more) (omega (arith, h.0)) r

-- one id more
pub ids_more : (ids : List ℕ) (id : ℕ) → AllByRecursion IsId ids → IsId id → AllByRecursion IsId (ids ++ id ∷ [])
ids_more [] id small is_id = (is_id, tt)
ids_more (x ∷ ids) id small is_id = (small.0, ids_more ids id small.1 is_id)

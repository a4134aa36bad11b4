-- the collection calls keep kinds
use Rattle.std.proofs.Common.{suc, Bool, true, false, not, cond, List, [], ◌∷◌, ◌++◌, All, find, nat_lt, length, arith, Some}
use Rattle.std.specs.Option.{option_map_or}
use Rattle.std.specs.Ordering.{is_lt, is_eq, is_gt}
use Rattle.std.specs.declared.cmp.Ordering.{Ordering}
use Rattle.std.proofs.lemmas.List.Elements.{All-append, All-cons, All-filter}
use Rattle.ql_lang.specs.declared.operation.Base.{Base}
use Rattle.ql_value.specs.declared.scalar.Scalar.{Scalar}
use Rattle.ql_value.specs.Order.{scalar_cmp, key_cmp}
use Rattle.ql_value.specs.Collections.{items_above, added, below, dropped, others, put_in, removed, united, value_for_key, with_item}
use Rattle.ql_eval.specs.ValueKinds.{HasBase, HasBases}

with_all : {X : Type 0} (cmp : X → X → Ordering) (P : X → Type 0) (e : X) (xs : List X) → P e → All P xs → All P (with_item cmp e xs)
with_all cmp P e xs here all = by_room (nat_lt (length (others cmp e xs)) 256) where
  by_room : (b : Bool) → All P (cond b (below cmp e xs ++ e ∷ items_above cmp e xs) xs)
  by_room true = All-append P (below cmp e xs) (e ∷ items_above cmp e xs) (All-filter (λ x. is_lt (cmp x e)) P xs all) (All-cons P e (items_above cmp e xs) here (All-filter (λ x. is_gt (cmp x e)) P xs all))
  by_room false = all

pub added_all : (P : Scalar → Type 0) (e : Scalar) (s : List Scalar) → P e → All P s → All P (added s e)
added_all P e s here all = with_all scalar_cmp P e s here all

pub removed_all : (P : Scalar → Type 0) (e : Scalar) (s : List Scalar) → All P s → All P (removed s e)
removed_all P e s all = All-filter (λ x. not (is_eq (scalar_cmp x e))) P s all

pub united_all : (P : Scalar → Type 0) (s t : List Scalar) → All P s → All P t → All P (united s t)
united_all P s [] all more = all
united_all P s (e ∷ t) all more = united_all P (added s e) t (added_all P e s (more 0 e (omega arith)) all) (λ k d lt. more (suc k) d (omega arith))

pub put_all : (b c : Base) (k v : Scalar) (m : List (Scalar × Scalar)) → HasBase b k → HasBase c v → All (λ x. HasBases b c x) m → All (λ x. HasBases b c x) (put_in m k v)
put_all b c k v m key value all = with_all key_cmp (λ x. HasBases b c x) (k, v) m (record { key = key; value = value }) all

pub dropped_all : (P : Scalar × Scalar → Type 0) (k : Scalar) (m : List (Scalar × Scalar)) → All P m → All P (dropped m k)
dropped_all P k m all = All-filter (λ entry. not (is_eq (scalar_cmp entry.0 k))) P m all

pub found_all : (b c : Base) (k d : Scalar) (m : List (Scalar × Scalar)) → HasBase c d → All (λ x. HasBases b c x) m → HasBase c (value_for_key m k d)
found_all b c k d [] here all = here
found_all b c k d (x ∷ m) here all = by_test (is_eq (scalar_cmp x.0 k)) (all 0 x (omega arith)).value (found_all b c k d m here (λ j y lt. all (suc j) y (omega arith))) where
  by_test : (t : Bool) → HasBase c x.1 → HasBase c (value_for_key m k d) → HasBase c (option_map_or (λ entry. entry.1) (cond t (Some x) (find (λ entry. is_eq (scalar_cmp entry.0 k)) m)) d)
  by_test true first rest = first
  by_test false first rest = rest

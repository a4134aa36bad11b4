-- the rules of sets and maps are kept
use Rattle.std.proofs.Common.{◌≤◌, suc, cond, [], ◌∷◌, Bool, true, false, List, length, filter, not, arith}
use Rattle.std.specs.Ordering.{is_eq}
use Rattle.ql_value.specs.declared.scalar.Scalar.{Scalar}
use Rattle.ql_value.specs.Order.{scalar_cmp, key_cmp}
use Rattle.ql_value.specs.Collections.{IsSet, IsMap, added, removed, put_in, dropped}
use Rattle.ql_value.proofs.Ascending.{kept, ascends_filter}
use Rattle.ql_value.proofs.ScalarOrder.{scalars_total, keys_total}

-- a part is no longer than the whole
filter_le : {X : Type 0} (p : X → Bool) (xs : List X) → length (filter p xs) ≤ length xs
filter_le p [] = omega arith
filter_le p (x ∷ xs) = by_test (filter_le p xs) (p x) where
  by_test : length (filter p xs) ≤ length xs → (b : Bool) → length (cond b (x ∷ filter p xs) (filter p xs)) ≤ suc (length xs)
  by_test rest true = omega arith
  by_test rest false = omega arith

pub set_added : (s : List Scalar) (e : Scalar) → IsSet s → IsSet (added s e)
set_added s e h = let k = kept scalar_cmp scalars_total e s h.few h.ascends in record { few = k.0; ascends = k.1 }

pub set_removed : (s : List Scalar) (e : Scalar) → IsSet s → IsSet (removed s e)
set_removed s e h = record {
  few = omega (arith, h.few, filter_le (λ x. not (is_eq (scalar_cmp x e))) s);
  ascends = ascends_filter scalar_cmp scalars_total (λ x. not (is_eq (scalar_cmp x e))) s h.ascends;
}

pub map_put : (m : List (Scalar × Scalar)) (k v : Scalar) → IsMap m → IsMap (put_in m k v)
map_put m k v h = let kp = kept key_cmp keys_total (k, v) m h.few h.ascends in record { few = kp.0; ascends = kp.1 }

pub map_dropped : (m : List (Scalar × Scalar)) (k : Scalar) → IsMap m → IsMap (dropped m k)
map_dropped m k h = record {
  few = omega (arith, h.few, filter_le (λ entry. not (is_eq (scalar_cmp entry.0 k))) m);
  ascends = ascends_filter key_cmp keys_total (λ entry. not (is_eq (scalar_cmp entry.0 k))) m h.ascends;
}

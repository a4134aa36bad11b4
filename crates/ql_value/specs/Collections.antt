use Rattle.std.specs.Prelude.{◌≡◌, ◌≤◌, List, [], ◌∷◌, ◌++◌, length, All, Bool, not, nat_lt, if◌then◌else◌, filter, find, fold, map, ℤ, pos, ◌+ℤ◌}
use Rattle.std.specs.List.{list_any}
use Rattle.std.specs.Option.{option_map_or}
use Rattle.std.specs.Ordering.{is_lt, is_eq, is_gt}
use Rattle.std.specs.declared.cmp.Ordering.{Ordering}
use Rattle.std.specs.declared.cmp.Ordering.TheVariants.{Less}
use Rattle.ql_value.specs.declared.scalar.Scalar.{Scalar}
use Rattle.ql_value.specs.declared.scalar.Scalar.TheVariants.{Int}
use Rattle.ql_value.specs.Order.{scalar_cmp, key_cmp}
use Rattle.ql_value.specs.Saturating.{saturated}

-- each item is below all that follow it
abbrev pub Ascends : {X : Type 0} → (X → X → Ordering) → List X → Type 0
Ascends cmp [] = Unit {0}
Ascends cmp (x ∷ xs) = All (λ y. cmp x y ≡ Less) xs × Ascends cmp xs

-- a set: its elements ascend, and are at most 256
pub record IsSet (elements : List Scalar) : Type 0 where
  pub few : length elements ≤ 256
  pub ascends : Ascends scalar_cmp elements

-- a map: its entries ascend by key, and are at most 256
pub record IsMap (entries : List (Scalar × Scalar)) : Type 0 where
  pub few : length entries ≤ 256
  pub ascends : Ascends key_cmp entries

module _ {X : Type 0} (cmp : X → X → Ordering) where
  -- the items below another
  abbrev pub below : X → List X → List X
  below e xs = filter (λ x. is_lt (cmp x e)) xs

  -- the items above it
  abbrev pub items_above : X → List X → List X
  items_above e xs = filter (λ x. is_gt (cmp x e)) xs

  -- the items other than it
  abbrev pub others : X → List X → List X
  others e xs = filter (λ x. not (is_eq (cmp x e))) xs

  -- the items with it inserted in order; unchanged if there are 256 others
  abbrev pub with_item : X → List X → List X
  with_item e xs = if nat_lt (length (others e xs)) 256 then below e xs ++ e ∷ items_above e xs else xs

-- the keys of a map
abbrev pub keys : List (Scalar × Scalar) → List Scalar
keys m = map (λ entry. entry.0) m

-- whether a scalar is in a list
abbrev pub contains : List Scalar → Scalar → Bool
contains elements k = list_any (λ x. is_eq (scalar_cmp x k)) elements

-- a set with an element, unchanged if it has 256 others
abbrev pub added : List Scalar → Scalar → List Scalar
added s e = with_item scalar_cmp e s

-- a set without an element
abbrev pub removed : List Scalar → Scalar → List Scalar
removed s e = others scalar_cmp e s

-- a set with another's elements, added in ascending order
abbrev pub united : List Scalar → List Scalar → List Scalar
united s t = fold added s t

-- a map in which `k` has the value `v`, unchanged if it has 256 other keys
abbrev pub put_in : List (Scalar × Scalar) → Scalar → Scalar → List (Scalar × Scalar)
put_in m k v = with_item key_cmp (k, v) m

-- a map without a key
abbrev pub dropped : List (Scalar × Scalar) → Scalar → List (Scalar × Scalar)
dropped m k = filter (λ entry. not (is_eq (scalar_cmp entry.0 k))) m

-- the value that a map has for a key, or `d` if it has no such key
abbrev pub value_for_key : List (Scalar × Scalar) → Scalar → Scalar → Scalar
value_for_key m k d = option_map_or (λ entry. entry.1) (find (λ entry. is_eq (scalar_cmp entry.0 k)) m) d

-- the number that a scalar is, 0 if it isn't one
abbrev pub int_of : Scalar → ℤ
int_of (Int n) = n
int_of other = pos 0

-- the saturating sum of a map's numbers, by ascending key, from 0
abbrev pub sum_of : List (Scalar × Scalar) → ℤ
sum_of m = fold (λ total entry. saturated (total +ℤ int_of entry.1)) (pos 0) m

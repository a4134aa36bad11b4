use Rattle.std.specs.Prelude.{ℕ, ◌≡◌, ◌<◌, suc, List, ◌++◌, true, length, slice_index_or, take, drop, Result, Ok, Err}
use Rattle.std.specs.List.{prefix_len}
use Rattle.std.specs.Ordering.{is_lt, is_eq}
use Rattle.std.specs.declared.cmp.Ordering.{Ordering}
use Rattle.ql_value.specs.Collections.{below, items_above, others}

module _ {X : Type 0} (cmp : X → X → Ordering) (e : X) (xs : List X) where
  -- the length of the longest prefix of items below another
  abbrev pub place : ℕ
  place = prefix_len (λ x. is_lt (cmp x e)) xs

  -- the item at that index is the other: the items below and above it are those before and after it
  pub record Found : Type 0 where
    pub within : place < length xs
    pub low : below cmp e xs ≡ take place xs
    pub high : items_above cmp e xs ≡ drop (suc place) xs
    pub rest : others cmp e xs ≡ take place xs ++ drop (suc place) xs

  -- no item is the other
  pub record Missing : Type 0 where
    pub low : below cmp e xs ≡ take place xs
    pub high : items_above cmp e xs ≡ drop place xs
    pub rest : others cmp e xs ≡ xs

  -- the index of the item, or the index where it would be inserted
  abbrev pub IsPlace : Result ℕ ℕ → Type 0
  IsPlace (Ok at) = (at ≡ place) × Found × ((d : X) → is_eq (cmp (slice_index_or xs at d) e) ≡ true)
  IsPlace (Err at) = (at ≡ place) × Missing

-- The values of declared kinds that JSON values spell.
use Rattle.std.specs.Prelude.{ℕ, Bool, ◌&&◌, nat_le, List, [], ◌∷◌, length, insert, Option, None, Some, option_map, option_and_then, if◌then◌else◌}
use Rattle.std.specs.List.{list_all, list_any}
use Rattle.std.specs.Ordering.{is_eq}
use Rattle.std.specs.declared.cmp.Ordering.{Ordering}
use Rattle.serde_json.specs.Data.{Data}
use Rattle.serde_json.specs.Find.{as_bool, as_i64, as_null, as_number, as_str}
use Rattle.ql_base.specs.Bytes.{is_text_byte}
use Rattle.ql_lang.specs.declared.operation.Base.{Base}
use Rattle.ql_lang.specs.declared.operation.Base.TheVariants as base
use Rattle.ql_lang.specs.declared.operation.Kind.{Kind}
use Rattle.ql_lang.specs.declared.operation.Kind.TheVariants as kind
use Rattle.ql_value.specs.Order.{key_cmp, scalar_cmp}
use Rattle.ql_value.specs.Places.{place}
use Rattle.ql_value.specs.declared.scalar.Scalar.{Scalar}
use Rattle.ql_value.specs.declared.scalar.Scalar.TheVariants as scalar
use Rattle.ql_value.specs.declared.value.Value.{Value}
use Rattle.ql_value.specs.declared.value.Value.TheVariants as value
use Rattle.ql_trace.specs.Json.{as_items, as_pair}

-- ---- scalars

-- a text of at most 64 bytes, each allowed between quotes
abbrev pub if_text : List ℕ → Option (List ℕ)
if_text t = if nat_le (length t) 64 && list_all is_text_byte t then Some t else None

abbrev pub as_text : Data → Option (List ℕ)
as_text d = option_and_then if_text (as_str d)

-- a scalar of a base kind
abbrev pub as_scalar : Base → Data → Option Scalar
as_scalar base.Int d = option_map scalar.Int (option_and_then as_i64 (as_number d))
as_scalar base.Bool d = option_map scalar.Bool (as_bool d)
as_scalar base.Text d = option_map scalar.Text (as_text d)

-- a key and a value
abbrev pub entry_in : Base → Base → Data × Data → Option (Scalar × Scalar)
entry_in b c pair = option_and_then (λ key. option_map (λ v. (key, v)) (as_scalar c pair.1)) (as_scalar b pair.0)

abbrev pub as_entry : Base → Base → Data → Option (Scalar × Scalar)
as_entry b c d = option_and_then (entry_in b c) (as_pair d)

-- ---- lists

-- what each item is, if each is something
unfoldable pub each_as : {D X : Type 0} → (D → Option X) → List D → Option (List X)
each_as one [] = Some []
each_as one (d ∷ ds) = option_and_then (λ x. option_map (λ xs. x ∷ xs) (each_as one ds)) (one d)

module _ {X : Type 0} (cmp : X → X → Ordering) where
  -- whether an item is among others
  abbrev pub has_equal : List X → X → Bool
  has_equal xs x = list_any (λ y. is_eq (cmp y x)) xs

  -- an item put among ascending ones, before the first that isn't below it
  abbrev pub put_among : List X → X → List X
  put_among xs x = insert xs (place cmp x xs) x

  -- items put among ascending ones, one after another, if none is there twice
  unfoldable pub all_among : List X → List X → Option (List X)
  all_among found [] = Some found
  all_among found (x ∷ xs) = if has_equal found x then None else all_among (put_among found x) xs

-- the elements of a set, in any order, none twice
abbrev pub if_set : List Scalar → Option Value
if_set xs = option_map value.Set (all_among scalar_cmp [] xs)

-- the entries of a map, in any order, no key twice
abbrev pub if_map : List (Scalar × Scalar) → Option Value
if_map xs = option_map value.Map (all_among key_cmp [] xs)

-- at most 256 items
abbrev pub if_few : List Data → Option (List Data)
if_few ds = if nat_le (length ds) 256 then Some ds else None

-- ---- values

abbrev pub as_set : Base → Data → Option Value
as_set b d = option_and_then if_set (option_and_then (each_as (as_scalar b)) (option_and_then if_few (as_items d)))

abbrev pub as_map : Base → Base → Data → Option Value
as_map b c d = option_and_then if_map (option_and_then (each_as (as_entry b c)) (option_and_then if_few (as_items d)))

-- a value of a kind
abbrev pub as_value : Kind → Data → Option Value
as_value kind.Unit d = option_map (λ _. value.Unit) (as_null d)
as_value kind.Int d = option_map value.Int (option_and_then as_i64 (as_number d))
as_value kind.Bool d = option_map value.Bool (as_bool d)
as_value kind.Text d = option_map value.Text (as_text d)
as_value (kind.Set b) d = as_set b d
as_value (kind.Map b c) d = as_map b c d

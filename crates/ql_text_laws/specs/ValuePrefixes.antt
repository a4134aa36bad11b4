use Rattle.std.specs.Prelude.{ℕ, ◌≡◌, ◌≤◌, ◌+◌, ◌-◌, ◌==◌, ◌||◌, Bool, true, List, [], ◌∷◌, ◌++◌, All, take, drop, min, codes, Err, length, if◌then◌else◌}
use Rattle.std.specs.List.{prefix_len}
use Rattle.ql_base.specs.Bytes.{StopsBefore, begins, is_digit, is_lower, is_text_byte}
use Rattle.ql_value.specs.declared.value.Value.{Value}
use Rattle.ql_value.specs.declared.value.Value.TheVariants.{Set, Map}
use Rattle.ql_value.specs.Collections.{IsMap, IsSet}
use Rattle.ql_value.specs.Reading.{is_byte, value_at}
use Rattle.ql_value.specs.ValueGrammar.{IsEntry, IsScalar, IsValue, ReadsValue}

-- the first fault of a text that is read as a value is at this offset
abbrev pub IsFaultAt : List ℕ → ℕ → Type 0
IsFaultAt text at = (at ≤ length text) × (value_at text ≡ Err (length text - at))

-- the items but the last
abbrev pub but_last : {X : Type 0} → List X → List X
but_last [] = []
but_last (x ∷ []) = []
but_last (x ∷ y ∷ more) = x ∷ but_last (y ∷ more)

-- a value within the limits, but that the last item of a set or a map may be one too many and needn't ascend
abbrev pub IsValueButLast : Value → Type 0
IsValueButLast (Set s) = IsSet (but_last s) × All IsScalar s
IsValueButLast (Map m) = IsMap (but_last m) × All IsEntry m
IsValueButLast other = IsValue other

-- some text of the grammar, of a value that fits, begins with these bytes
abbrev pub BeginsAs : (Value → Type 0) → List ℕ → Type 0
BeginsAs Fits bytes = (more : List ℕ) × (v : Value) × Fits v × ReadsValue v (bytes ++ more) []

-- some text of a value within the limits begins with these bytes
abbrev pub BeginsValue : List ℕ → Type 0
BeginsValue = BeginsAs IsValue

-- what a number may start with: a digit or `-`
unfoldable pub starts_number : ℕ → Bool
starts_number b = is_digit b || (b == 45)

-- what an item may start with: a number, or `"`, `t` or `f`
unfoldable pub starts_item : ℕ → Bool
starts_item b = is_digit b || (b == 45) || (b == 34) || (b == 116) || (b == 102)

-- an item may start at this offset: `true` might be one here, and the byte is one that an item may start with
abbrev pub MayStartItem : List ℕ → ℕ → Type 0
MayStartItem text at = BeginsAs IsValueButLast (take at text ++ codes "true") × (begins starts_item (drop at text) ≡ true)

-- the length of the item at the start of a text: of a text with both its quotes, or one and 65 bytes if it is longer; of
-- the letters of a word; or of a sign or a digit and the digits behind it
unfoldable pub item_length : List ℕ → ℕ
item_length text =
    if begins (is_byte 34) text then min 66 (2 + prefix_len is_text_byte (drop 1 text))
    else if begins is_lower text then prefix_len is_lower text
    else 1 + prefix_len is_digit (drop 1 text)

-- no text of a value within the limits begins with the bytes up to the end of the item at this offset, unless the item is
-- a number and a digit follows it
abbrev pub EndsValues : List ℕ → ℕ → Type 0
EndsValues text at =
    (v : Value) (more : List ℕ) → IsValue v → (begins starts_number (drop at text) ≡ true → StopsBefore is_digit more)
    → ReadsValue v (take (at + item_length (drop at text)) text ++ more) [] → ⊥

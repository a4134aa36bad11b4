-- The parts of an effect's line: fields, values, and values in round brackets. `XAt x text rest` says that `text`
-- starts with `x`, and that `rest` follows it.
use Rattle.std.specs.Prelude.{◌≡◌, ℕ, Bool, true, List, [], ◌∷◌, ◌++◌, replicate, codes}
use Rattle.ql_base.specs.Bytes.{StopsBefore, is_digit}
use Rattle.ql_lines.specs.Fields.{Fields, FirstField, is_space}
use Rattle.ql_value.specs.declared.value.Value.{Value}
use Rattle.ql_value.specs.ValueGrammar.{IsValue, ReadsMore, ReadsValue}

-- fields, each after any number of spaces
abbrev pub FieldsAt : Fields → List ℕ → List ℕ → Type 0
FieldsAt [] text rest = text ≡ rest
FieldsAt (f ∷ fs) text rest = (remaining : List ℕ) × FirstField text f remaining × FieldsAt fs remaining rest

-- a value within the limits, as the grammar of values spells it, and no digit directly after it
pub record ValueAt (v : Value) (text rest : List ℕ) : Type 0 where
  pub fits : IsValue v
  pub spelled : ReadsValue v text rest
  pub ended : StopsBefore is_digit rest

-- values, and the bracket after them: there are a comma and any number of spaces between two
abbrev pub ItemsAt : List Value → List ℕ → List ℕ → Type 0
ItemsAt [] text rest = ⊥
ItemsAt (v ∷ vs) text rest = (remaining : List ℕ) × ValueAt v text remaining × ReadsMore ValueAt vs remaining (41 ∷ rest)

-- values in round brackets
abbrev pub ValuesAt : List Value → List ℕ → List ℕ → Type 0
ValuesAt [] text rest = text ≡ codes "()" ++ rest
ValuesAt (v ∷ vs) text rest = (inner : List ℕ) × (text ≡ 40 ∷ inner) × ItemsAt (v ∷ vs) inner rest

-- the text ends here, or a space follows
abbrev pub ends_field : List ℕ → Bool
ends_field [] = true
ends_field (b ∷ rest) = is_space b

-- a part as a field: after any number of spaces, and up to a space or the line's end
pub record FieldAt {X : Type 0} (PartAt : X → List ℕ → List ℕ → Type 0) (x : X) (text rest : List ℕ) : Type 0 where
  pub gap : ℕ
  pub start : List ℕ
  pub spaces : text ≡ replicate gap 32 ++ start
  pub part : PartAt x start rest
  pub ended : ends_field rest ≡ true

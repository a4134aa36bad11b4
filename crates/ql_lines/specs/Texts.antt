-- How lines of fields are written: fields with one space between them, each line ended by a line feed.
use Rattle.std.specs.Prelude.{◌≡◌, ℕ, ◌<◌, Bool, false, ◌||◌, ◌==◌, List, [], ◌∷◌, ◌++◌, length}
use Rattle.std.specs.List.{AllByRecursion}
use Rattle.ql_lines.specs.Lines.{are_skipped}

abbrev pub joined : List (List ℕ) → List ℕ
joined [] = []
joined (f ∷ []) = f
joined (f ∷ g ∷ fs) = f ++ 32 ∷ joined (g ∷ fs)

-- each field after a space
unfoldable pub spaced_fields : List (List ℕ) → List ℕ
spaced_fields [] = []
spaced_fields (f ∷ fs) = 32 ∷ f ++ spaced_fields fs

unfoldable pub file_text : List (List (List ℕ)) → List ℕ
file_text [] = []
file_text (l ∷ ls) = joined l ++ 10 ∷ file_text ls

-- a byte that a written field may not contain: a space or the end of a line
abbrev pub is_ender : ℕ → Bool
is_ender b = (b == 32) || (b == 10) || (b == 13)

abbrev pub EndsNothing : List ℕ → Type 0
EndsNothing field = AllByRecursion (λ b. is_ender b ≡ false) field

-- a field that is read as it is written
pub record IsPlain (f : List ℕ) : Type 0 where
  pub some : 0 < length f
  pub plain : EndsNothing f

-- fields that are read as they are written, of a line that isn't skipped
pub record IsPlainLine (fields : List (List ℕ)) : Type 0 where
  pub plain : AllByRecursion IsPlain fields
  pub kept : are_skipped fields ≡ false

-- The fields of a line: the parts between its spaces that aren't empty.
use Rattle.std.specs.Prelude.{◌≡◌, ℕ, Bool, not, ◌==◌, ◌<◌, ◌^◌, ◌∷◌, List, ◌++◌, replicate, length}
use Rattle.std.specs.List.{filter, slice_split}

abbrev pub Fields : Type 0
Fields = List (List ℕ)

abbrev pub is_space : ℕ → Bool
is_space b = b == 32

abbrev pub isn't_empty : List ℕ → Bool
isn't_empty part = not (length part == 0)

abbrev pub fields_of : List ℕ → Fields
fields_of text = filter isn't_empty (slice_split is_space text)

-- the first field of a line, after spaces, and what directly follows it
pub record FirstField (text field rest : List ℕ) : Type 0 where
  pub fields : fields_of text ≡ field ∷ fields_of rest
  pub spaces : ℕ
  pub stands : text ≡ replicate spaces 32 ++ field ++ rest

-- an id in a file is a number of 32 bits
abbrev pub IsId : ℕ → Type 0
IsId n = n < 2 ^ 32

use Rattle.std.specs.Prelude.{◌≤◌, ◌<◌, ◌^◌, ℕ, Bool, List, [], ◌∷◌, ◌++◌, length, Option, All, position, if◌then◌else◌}
use Rattle.std.specs.List.{list_any}
use Rattle.std.specs.Str.{bytes_eq}

-- whether a name is in a list
abbrev pub has_name : List (List ℕ) → List ℕ → Bool
has_name names w = list_any (bytes_eq w) names

-- the index of the first occurrence of a name in a list
abbrev pub place : List (List ℕ) → List ℕ → Option ℕ
place names w = position (bytes_eq w) names

-- the list with the name appended, unless it is already there
abbrev pub with_name : List (List ℕ) → List ℕ → List (List ℕ)
with_name names w = if has_name names w then names else names ++ w ∷ []

-- names of 1 to 32 bytes, few enough to be numbered with 32 bits
pub record AreNames (names : List (List ℕ)) : Type 0 where
  pub some : All (λ w. 1 ≤ length w) names
  pub short : All (λ w. length w ≤ 32) names
  pub few : length names < 2 ^ 32

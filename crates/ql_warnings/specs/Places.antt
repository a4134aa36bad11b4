-- Lines and columns of a text.
use Rattle.std.specs.Prelude.{ℕ, suc, ◌≡◌, ◌<◌, Bool, not, nat_eq, List, count_by, length, reverse, take}
use Rattle.std.specs.List.{prefix_len}
use Rattle.ql_warnings.specs.declared.warning.Place.{Place}

abbrev pub ends_line : ℕ → Bool
ends_line b = nat_eq b 10

abbrev pub in_line : ℕ → Bool
in_line b = not (ends_line b)

-- An offset of the source with its line and its column, both from 1: how many lines end before it, and how many bytes
-- there are between the last of these ends and it.
pub record IsPlaceOf (source : List ℕ) (place : Place) : Type 0 where
  pub within : place.at < length source
  pub line : place.line ≡ suc (count_by ends_line (take place.at source))
  pub column : place.column ≡ suc (prefix_len in_line (reverse (take place.at source)))

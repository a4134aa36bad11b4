-- What comes first in the rest of a file.
use Rattle.std.specs.Prelude.{ℕ, ◌≢◌, List, [], ◌∷◌}

-- no open gate
abbrev pub IsShut : List ℕ → Type 0
IsShut [] = Unit {0}
IsShut (gate ∷ rest) = gate ≢ 1

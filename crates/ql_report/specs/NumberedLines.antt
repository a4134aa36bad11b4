-- Lines of items in order, each made from its item and the item's number.
use Rattle.std.specs.Prelude.{ℕ, ◌+◌, List, [], ◌∷◌}
use Rattle.ql_lines.specs.Fields.{Fields}

-- the first item has the number `n`
unfoldable pub lines_from : {X : Type 0} → (ℕ → X → Fields) → ℕ → List X → List Fields
lines_from line n [] = []
lines_from line n (x ∷ xs) = line n x ∷ lines_from line (n + 1) xs

use Rattle.std.proofs.Common.{◌≡◌, ◌++◌, ℕ, List, length}
use Rattle.ql_value.specs.declared.value.Value.{Value}
use Rattle.ql_effect_lines.specs.Parts.{ItemsAt}
use Rattle.ql_effect_lines.proofs.part.items.Given as goal

-- what is left gives the same as all
abbrev pub invariant-loop-items : goal.invariant-loop-items
invariant-loop-items l =
    ((vs : List Value) (end : List ℕ) → ItemsAt vs l.rest end → ItemsAt (l.items.items ++ vs) l.text end)
    × ((vs : List Value) (end : List ℕ) → ItemsAt vs l.text end → (ws : List Value) × (vs ≡ l.items.items ++ ws) × ItemsAt ws l.rest end)

abbrev pub decreases-loop-items : goal.decreases-loop-items
decreases-loop-items l = length l.rest

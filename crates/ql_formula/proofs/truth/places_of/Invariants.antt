use Rattle.std.proofs.Common.{◌≡◌, length, map, take}
use Rattle.ql_formula.proofs.truth.places_of.Given as goal

abbrev pub invariant-loop-k : goal.invariant-loop-k
invariant-loop-k l = (length l.row ≡ 5) × (map (λ id. id.0) (take l.k l.row) ≡ take l.k l.numbers)

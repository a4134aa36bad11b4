use Rattle.std.proofs.Common.{◌≡◌}
use Rattle.ql_sat.specs.Trail.{learned_to}
use Rattle.ql_sat.proofs.learning.learned.Given as goal

abbrev pub invariant-loop-below : goal.invariant-loop-below
invariant-loop-below l = l.literals.items ≡ learned_to l.marks l.seen l.below

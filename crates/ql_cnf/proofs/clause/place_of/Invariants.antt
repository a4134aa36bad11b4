use Rattle.std.proofs.Common.{◌≤◌, length}
use Rattle.ql_cnf.specs.Literals.{count_below}
use Rattle.ql_cnf.proofs.clause.place_of.Given as goal

abbrev pub invariant-loop-place : goal.invariant-loop-place
invariant-loop-place l = (count_below l.var l.items ≤ l.place) × (l.place ≤ length l.items)

abbrev pub decreases-loop-place : goal.decreases-loop-place
decreases-loop-place l = l.place

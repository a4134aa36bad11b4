use Rattle.std.proofs.Common.{◌≡◌, length}
use Rattle.ql_baseline.specs.Comparison.{stored_op}
use Rattle.ql_baseline.proofs.rises.stored_op.Given as goal

abbrev pub invariant-loop-first : goal.invariant-loop-first
invariant-loop-first l = stored_op l.stored l.name ≡ stored_op l.rest l.name

abbrev pub decreases-loop-first : goal.decreases-loop-first
decreases-loop-first l = length l.rest

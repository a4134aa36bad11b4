use Rattle.std.proofs.Common.{◌+◌, ◌-◌, length}
use Rattle.ql_session.specs.Rows.{lists_of, AreSame}
use Rattle.ql_session.proofs.rows.grow.Given as goal

abbrev pub invariant-growing : goal.invariant-growing
invariant-growing l = AreSame (lists_of l.fn.rows.items) (lists_of l.rows.items)

abbrev pub decreases-growing : goal.decreases-growing
decreases-growing l = l.k + 1 - length l.rows.items

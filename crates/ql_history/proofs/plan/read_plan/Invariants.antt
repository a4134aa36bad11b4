use Rattle.std.proofs.Common.{length}
use Rattle.ql_history.proofs.plan.read_plan.Given as goal

abbrev pub decreases-loop-line : goal.decreases-loop-line
decreases-loop-line l = length l.lines.lines

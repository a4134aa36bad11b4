use Rattle.std.proofs.Common.{length}
use Rattle.ql_history.proofs.run.read_run.Given as goal

abbrev pub decreases-loop-line : goal.decreases-loop-line
decreases-loop-line l = length l.lines.lines

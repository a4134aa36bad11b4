use Rattle.std.proofs.Common.{length}
use Rattle.ql_judging.proofs.breach_line.+push_each.Given as goal

abbrev pub decreases-push_each : goal.decreases-push_each
decreases-push_each l = length l.vars.now

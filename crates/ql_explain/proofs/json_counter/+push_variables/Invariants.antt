use Rattle.std.proofs.Common.{length}
use Rattle.ql_explain.proofs.json_counter.+push_variables.Given as goal

abbrev pub decreases-push_variables : goal.decreases-push_variables
decreases-push_variables l = length l.vars.now

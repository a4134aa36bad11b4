use Rattle.std.proofs.Common.{length}
use Rattle.ql_schedule.proofs.judging.+fit.Given as goal

abbrev pub decreases-fit : goal.decreases-fit
decreases-fit l = length l.params.now

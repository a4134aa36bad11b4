use Rattle.std.proofs.Common.{length}
use Rattle.ql_explanation.proofs.sections.+push_warned.Given as goal

abbrev pub decreases-push_warned : goal.decreases-push_warned
decreases-push_warned l = length l.warned.now

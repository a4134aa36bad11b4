use Rattle.std.proofs.Common.{length}
use Rattle.ql_explanation.proofs.sections.+push_strong.Given as goal

abbrev pub decreases-push_strong : goal.decreases-push_strong
decreases-push_strong l = length l.uses.now

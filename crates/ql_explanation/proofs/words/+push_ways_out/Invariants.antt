use Rattle.std.proofs.Common.{length}
use Rattle.ql_explanation.proofs.words.+push_ways_out.Given as goal

abbrev pub decreases-push_ways_out : goal.decreases-push_ways_out
decreases-push_ways_out l = length l.uses.now

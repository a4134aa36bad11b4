use Rattle.std.proofs.Common.{◌-◌, length}
use Rattle.ql_warnings.proofs.unbracketed.+joined.Given as goal

abbrev pub decreases-joined : goal.decreases-joined
decreases-joined l = length l.tokens.now - l.k

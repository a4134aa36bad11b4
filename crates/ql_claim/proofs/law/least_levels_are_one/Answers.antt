use Rattle.ql_claim.proofs.OneLevel.{one-least}
use Rattle.ql_claim.proofs.law.least_levels_are_one.Goals as goal

pub returns : goal.returns
returns c = one-least c.countermodels_refute.ensures.op c.countermodels_refute.ensures.txn

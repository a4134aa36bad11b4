use Rattle.ql_verdicts.proofs.StrongUses.{reported_use, weak_uses}
use Rattle.ql_verdicts.proofs.uses.strong_uses_are_reported.Goals as goal

pub returns-clause-accepted : goal.returns-clause-accepted
returns-clause-accepted c = weak_uses

pub returns-clause-reported : goal.returns-clause-reported
returns-clause-reported c = reported_use

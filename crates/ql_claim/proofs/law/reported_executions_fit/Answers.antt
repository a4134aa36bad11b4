use Rattle.ql_claim.proofs.Fits.{reported-fits}
use Rattle.ql_claim.proofs.law.reported_executions_fit.Goals as goal

pub returns-clause-lawful : goal.returns-clause-lawful
returns-clause-lawful c = λ p file x is. (reported-fits p file x is).0

pub returns-clause-fits : goal.returns-clause-fits
returns-clause-fits c = λ p file x is. (reported-fits p file x is).1

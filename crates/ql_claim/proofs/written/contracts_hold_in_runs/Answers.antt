use Rattle.ql_claim.proofs.RunWritten.{writes-run}
use Rattle.ql_claim.proofs.written.contracts_hold_in_runs.Goals as goal

pub returns : goal.returns
returns c = writes-run

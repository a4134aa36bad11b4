use Rattle.ql_runs.proofs.Going.{can-go}
use Rattle.ql_runs.proofs.law.events_can_be_answered.Goals as goal

pub returns : goal.returns
returns c = can-go

use Rattle.ql_exec.proofs.StampOrder.{stamps-ascend, stamps-apart}
use Rattle.ql_exec.proofs.clocks.stamps_ascend.Goals as goal

pub returns-clause-ascend : goal.returns-clause-ascend
returns-clause-ascend c = stamps-ascend

pub returns-clause-apart : goal.returns-clause-apart
returns-clause-apart c = stamps-apart

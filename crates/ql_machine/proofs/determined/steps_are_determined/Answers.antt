use Rattle.ql_machine.proofs.OneStep.{step-once}
use Rattle.ql_machine.proofs.determined.steps_are_determined.Goals as goal

pub returns : goal.returns
returns c = step-once

use Rattle.ql_machine.proofs.Alone.{all-given}
use Rattle.ql_machine.proofs.packages.strong_calls_give_all.Goals as goal

pub returns : goal.returns
returns c = all-given

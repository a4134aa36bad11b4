use Rattle.ql_commands.proofs.Accepted.{accepted_again}
use Rattle.ql_commands.proofs.laws.what_is_proved_is_accepted.Goals as goal

pub returns : goal.returns
returns c = accepted_again c.one_program_answer.ensures.tree

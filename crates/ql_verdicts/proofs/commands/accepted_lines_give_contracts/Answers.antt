use Rattle.ql_verdicts.proofs.Reported.{all_accepted, front_accepted}
use Rattle.ql_verdicts.proofs.commands.accepted_lines_give_contracts.Goals as goal

pub returns-clause-yes : goal.returns-clause-yes
returns-clause-yes c = all_accepted

pub returns-clause-no : goal.returns-clause-no
returns-clause-no c = front_accepted

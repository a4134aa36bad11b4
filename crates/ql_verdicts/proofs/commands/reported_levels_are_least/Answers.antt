use Rattle.ql_verdicts.proofs.Reported.{levels_least, none_reported}
use Rattle.ql_verdicts.proofs.commands.reported_levels_are_least.Goals as goal

pub returns-clause-yes : goal.returns-clause-yes
returns-clause-yes c = levels_least

pub returns-clause-no : goal.returns-clause-no
returns-clause-no c = none_reported

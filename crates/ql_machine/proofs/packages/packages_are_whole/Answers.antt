use Rattle.ql_machine.proofs.Alone.{carried-parcel, held-whole}
use Rattle.ql_machine.proofs.Runs.{kept}
use Rattle.ql_machine.proofs.packages.packages_are_whole.Goals as goal

pub returns-clause-received : goal.returns-clause-received
returns-clause-received c = λ rules n events replies last run. held-whole rules.promises n last (kept rules n events replies last run)

pub returns-clause-ascending : goal.returns-clause-ascending
returns-clause-ascending c = λ rules n events replies last run r. (kept rules n events replies last run).whole.ascending r

pub returns-clause-carried : goal.returns-clause-carried
returns-clause-carried c = λ rules n events replies last run m message is. (carried-parcel rules.promises n last (kept rules n events replies last run) m message is).package_of

use Rattle.ql_machine.proofs.Formulas.{eventual, level_holds}
use Rattle.ql_machine.proofs.Runs.{kept}
use Rattle.ql_machine.proofs.levels.effects_meet_their_levels.Goals as goal

pub returns-clause-execution : goal.returns-clause-execution
returns-clause-execution c = λ rules n events replies last run. (kept rules n events replies last run).sound.execution

pub returns-clause-level : goal.returns-clause-level
returns-clause-level c = λ rules n events replies last run a e at. level_holds rules.promises n last (kept rules n events replies last run) a e at

pub returns-clause-eventual : goal.returns-clause-eventual
returns-clause-eventual c = λ rules n events replies last run a. eventual rules.promises n last (kept rules n events replies last run) a

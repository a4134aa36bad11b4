use Rattle.ql_machine.specs.Runs.{stop}
use Rattle.ql_machine.specs.State.{empty}
use Rattle.ql_runs.proofs.Going.{leads-on}
use Rattle.ql_runs.proofs.law.steps_make_runs.Goals as goal

pub returns-clause-none : goal.returns-clause-none
returns-clause-none c = λ rules n. stop (empty n)

pub returns-clause-more : goal.returns-clause-more
returns-clause-more c = λ rules n events replies last next event reply run step. leads-on rules (empty n) events replies last next event reply run step

use Rattle.ql_machine.proofs.Keeping.{keeps-empty, keeps-step}
use Rattle.ql_machine.proofs.kept.steps_keep_all.Goals as goal

pub returns-clause-start : goal.returns-clause-start
returns-clause-start c = keeps-empty

pub returns-clause-step : goal.returns-clause-step
returns-clause-step c = keeps-step

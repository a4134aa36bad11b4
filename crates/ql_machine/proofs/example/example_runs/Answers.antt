use Rattle.ql_machine.proofs.Written.{not-applied, written-run}
use Rattle.ql_machine.proofs.example.example_runs.Goals as goal

pub returns-clause-run : goal.returns-clause-run
returns-clause-run c = written-run

pub returns-clause-no_step : goal.returns-clause-no_step
returns-clause-no_step c = not-applied

use Rattle.ql_verdicts.proofs.RunAgain.{run_is_read}
use Rattle.ql_verdicts.proofs.printed_runs.printed_runs_are_read_again.Goals as goal

pub returns : goal.returns
returns c = run_is_read

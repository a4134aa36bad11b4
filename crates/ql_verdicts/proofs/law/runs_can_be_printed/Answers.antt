use Rattle.ql_verdicts.proofs.Printing.{run-printable}
use Rattle.ql_verdicts.proofs.law.runs_can_be_printed.Goals as goal

pub returns : goal.returns
returns c = run-printable

use Rattle.ql_lines.specs.Lines.{ahead_from}
use Rattle.std.proofs.Common.{subst, sym}
use Rattle.ql_holds_files.proofs.Within.{AreFew, file_within}
use Rattle.ql_holds_files.proofs.parse.parse_holds.Goals as goal

pub returns-in-Ok-clause-few : goal.returns-in-Ok-clause-few
returns-in-Ok-clause-few c = subst AreFew (sym c.holding.ensures) (file_within (ahead_from 1 c.args.bytes.now) c.in-Ok.asked c.in-Ok.ensures)

use Rattle.ql_lines.specs.Lines.{ahead_from}
use Rattle.ql_execution_files.proofs.Files.{file_sound}
use Rattle.ql_execution_files.proofs.parse.parse_execution.Goals as goal

pub returns-in-Ok-clause-few : goal.returns-in-Ok-clause-few
returns-in-Ok-clause-few c = (file_sound c.args.t.now.program (ahead_from 1 c.args.bytes.now) c.in-Ok.execution c.in-Ok.ensures).0

pub returns-in-Ok-clause-known : goal.returns-in-Ok-clause-known
returns-in-Ok-clause-known c = (file_sound c.args.t.now.program (ahead_from 1 c.args.bytes.now) c.in-Ok.execution c.in-Ok.ensures).1

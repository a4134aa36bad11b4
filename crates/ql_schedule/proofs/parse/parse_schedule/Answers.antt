use Rattle.ql_lines.specs.Lines.{ahead_from}
use Rattle.ql_schedule.proofs.Named.{named_of}
use Rattle.ql_schedule.proofs.Sound.{file_sound}
use Rattle.ql_schedule.proofs.parse.parse_schedule.Goals as goal

pub returns-in-Ok-clause-guarantees : goal.returns-in-Ok-clause-guarantees
returns-in-Ok-clause-guarantees c = file_sound c.args.t.now.program (ahead_from 1 c.args.bytes.now) c.in-Ok.schedule c.in-Ok.ensures

pub returns-in-Ok-clause-named : goal.returns-in-Ok-clause-named
returns-in-Ok-clause-named c =
    named_of c.args.t.now.program c.in-Ok.schedule (file_sound c.args.t.now.program (ahead_from 1 c.args.bytes.now) c.in-Ok.schedule c.in-Ok.ensures)

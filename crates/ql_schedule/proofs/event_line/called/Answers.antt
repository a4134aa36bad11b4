use Rattle.ql_schedule.specs.Parts.{parts_of}
use Rattle.ql_schedule.proofs.Fronts.{no_called}
use Rattle.ql_schedule.proofs.event_line.called.Goals as goal

pub returns-in_default : goal.returns-in_default
returns-in_default c = no_called (parts_of c.args.text.now) c.in_default.ensures

use Rattle.ql_schedule.specs.Parts.{parts_of}
use Rattle.ql_schedule.proofs.Fronts.{no_other_first}
use Rattle.ql_schedule.proofs.parts.after_number.Goals as goal

pub returns-in_default : goal.returns-in_default
returns-in_default c = no_other_first (parts_of c.args.text.now) c.in_ok-first.first.now (parts_of c.in_ok-first.remaining.now) c.in_ok-first.ensures.first c.in_default.ensures

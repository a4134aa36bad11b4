use Rattle.ql_schedule.specs.Parts.{parts_of}
use Rattle.ql_schedule.proofs.Fronts.{no_caller, no_replica}
use Rattle.ql_schedule.proofs.event_parts.after_caller.Goals as goal

pub returns-in_default : goal.returns-in_default
returns-in_default c = no_caller (parts_of c.args.text.now) c.in_default.ensures

pub returns-in_default-after_number : goal.returns-in_default-after_number
returns-in_default-after_number c =
    no_replica (parts_of c.args.text.now) (parts_of c.in-Some.rest.now) (parts_of c.in_ok-rest.rest.now) c.in-Some.ensures.0 c.in-Some.ensures.2 c.in_ok-rest.ensures c.in_default-after_number.ensures

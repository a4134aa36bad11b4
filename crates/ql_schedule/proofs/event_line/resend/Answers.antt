use Rattle.ql_schedule.specs.Parts.{parts_of}
use Rattle.ql_schedule.proofs.NoEvents.{no_receiver, no_sender}
use Rattle.ql_schedule.proofs.event_line.resend.Goals as goal

pub returns-in_default-after_number : goal.returns-in_default-after_number
returns-in_default-after_number c =
    no_sender (parts_of c.args.text.now) (parts_of c.in-Some.rest.now) (parts_of c.in_ok-rest.rest.now) c.in-Some.ensures.0 c.in-Some.ensures.2 c.in_ok-rest.ensures c.in_default-after_number.ensures

pub returns-in_default-one_number : goal.returns-in_default-one_number
returns-in_default-one_number c =
    no_receiver (parts_of c.args.text.now) (parts_of c.in-Some.rest.now) (parts_of c.in_ok-rest.rest.now) (parts_of c.in-Some-after_number.rest.now) (parts_of c.in_ok-rest-2.rest.now)
    c.in-Some.ensures.0 c.in-Some-after_number.ensures.0 c.in-Some.ensures.2 c.in_ok-rest.ensures c.in-Some-after_number.ensures.2 c.in_ok-rest-2.ensures c.in_default-one_number.ensures

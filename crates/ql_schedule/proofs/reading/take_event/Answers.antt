use Rattle.ql_schedule.proofs.Clean.{clean, either}
use Rattle.ql_schedule.specs.Judging.{declares_too_many, event_faults, is_full, most_events}
use Rattle.std.specs.Prelude.{◌||◌, length, nat_le}
use Rattle.ql_schedule.proofs.reading.take_event.Goals as goal

pub replicas_with-later-requires : goal.replicas_with-later-requires
replicas_with-later-requires c =
    let s = c.args.so_far.now in
    let n = c.args.replicas in
    let line = c.in-Some.line in
    let lawful = clean (event_faults c.args.t.now.program s n line) c.in_ok-known.ensures.judged in
    (either (nat_le most_events (length s.events) || declares_too_many line) (is_full n line) lawful.too_many).1

pub event-requires-clause-lawful : goal.event-requires-clause-lawful
event-requires-clause-lawful c = c.in_ok-known.ensures.judged

pub event-requires-clause-numbers : goal.event-requires-clause-numbers
event-requires-clause-numbers c = c.in_ok-known.ensures.numbers

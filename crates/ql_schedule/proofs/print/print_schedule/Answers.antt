use Rattle.std.proofs.lemmas.Result.{err_from_is_err_and}
use Rattle.std.proofs.Common.{decimal, map}
use Rattle.ql_schedule.specs.Texts.{event_fields, object_lines}
use Rattle.ql_schedule.proofs.Printing.{schedule_pieces}
use Rattle.ql_schedule.proofs.print.print_schedule.Goals as goal

pub returns : goal.returns
returns c =
    let p = c.args.t.now.program in
    let s = c.args.s.now in
    rw (
      c.in_ok-push_events.ensures,
      c.in_ok-push_bytes-4.ensures.ok,
      c.in_ok-push_objects.ensures,
      c.in_ok-push_bytes-3.ensures.ok,
      c.in_ok-push_number-2.ensures.ok,
      c.in_ok-push_bytes-2.ensures.ok,
      c.in_ok-push_number.ensures.ok,
      c.in_ok-push_bytes.ensures.ok,
      c.new-text.ensures.items,
    ) (schedule_pieces (decimal s.version) (decimal s.replicas) (object_lines p s.objects s.kinds) (map (event_fields p s.objects) s.events))

pub returns-in_err-push_bytes : goal.returns-in_err-push_bytes
returns-in_err-push_bytes c = let p = err_from_is_err_and c.from_residual.result c.from_residual.ensures.1 in rw p.1 tt

pub returns-in_err-push_bytes-2 : goal.returns-in_err-push_bytes-2
returns-in_err-push_bytes-2 c = let p = err_from_is_err_and c.from_residual-in_err-push_bytes-2.result c.from_residual-in_err-push_bytes-2.ensures.1 in rw p.1 tt

pub returns-in_err-push_bytes-3 : goal.returns-in_err-push_bytes-3
returns-in_err-push_bytes-3 c = let p = err_from_is_err_and c.from_residual-in_err-push_bytes-3.result c.from_residual-in_err-push_bytes-3.ensures.1 in rw p.1 tt

pub returns-in_err-push_bytes-4 : goal.returns-in_err-push_bytes-4
returns-in_err-push_bytes-4 c = let p = err_from_is_err_and c.from_residual-in_err-push_bytes-4.result c.from_residual-in_err-push_bytes-4.ensures.1 in rw p.1 tt

pub returns-in_err-push_events : goal.returns-in_err-push_events
returns-in_err-push_events c = let p = err_from_is_err_and c.from_residual-in_err-push_events.result c.from_residual-in_err-push_events.ensures.1 in rw p.1 tt

pub returns-in_err-push_number : goal.returns-in_err-push_number
returns-in_err-push_number c = let p = err_from_is_err_and c.from_residual-in_err-push_number.result c.from_residual-in_err-push_number.ensures.1 in rw p.1 tt

pub returns-in_err-push_number-2 : goal.returns-in_err-push_number-2
returns-in_err-push_number-2 c = let p = err_from_is_err_and c.from_residual-in_err-push_number-2.result c.from_residual-in_err-push_number-2.ensures.1 in rw p.1 tt

pub returns-in_err-push_objects : goal.returns-in_err-push_objects
returns-in_err-push_objects c = let p = err_from_is_err_and c.from_residual-in_err-push_objects.result c.from_residual-in_err-push_objects.ensures.1 in rw p.1 tt

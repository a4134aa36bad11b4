use Rattle.std.proofs.lemmas.Result.{err_from_is_err_and}
use Rattle.std.proofs.Common.{◌++◌, ◌∙◌, List, ap, map}
use Rattle.std.proofs.lemmas.List.{take_all}
use Rattle.ql_lines.specs.Texts.{file_text}
use Rattle.ql_machine.specs.declared.event.Event.{Event}
use Rattle.ql_schedule.specs.Texts.{event_fields}
use Rattle.ql_schedule.proofs.Printing.{event_more_of, no_lines}
use Rattle.ql_schedule.proofs.print.push_events.Goals as goal

pub loop-event-init : goal.loop-event-init
loop-event-init c = no_lines c.args.out.now.items

pub loop-event-preserved : goal.loop-event-preserved
loop-event-preserved c =
    rw (c.in_ok-push_bytes.ensures.ok, c.in_ok-push_event.ensures, c.loop-event.invariant)
    (event_more_of (event_fields c.args.t.now.program c.args.s.now.objects) c.items-event-items.result.now c.args.s.now.events c.loop-event.event-index c.event-item.result c.args.out.now.items c.items-event-items.ensures c.loop-event-test.true c.event-item.is)

pub returns : goal.returns
returns c =
    let fields = event_fields c.args.t.now.program c.args.s.now.objects in
    c.loop-event.invariant ∙ ap (λ (es : List Event). c.args.out.now.items ++ file_text (map fields es)) (take_all c.loop-event.event-index c.args.s.now.events (rw c.items-event-items.ensures at c.loop-event-test.false))

pub returns-in_err-push_bytes : goal.returns-in_err-push_bytes
returns-in_err-push_bytes c = let p = err_from_is_err_and c.from_residual-in_err-push_bytes.result c.from_residual-in_err-push_bytes.ensures.1 in rw p.1 tt

pub returns-in_err-push_event : goal.returns-in_err-push_event
returns-in_err-push_event c = let p = err_from_is_err_and c.from_residual.result c.from_residual.ensures.1 in rw p.1 tt

use Rattle.std.proofs.Common.{◌≡◌, ◌++◌, map, take}
use Rattle.ql_lines.specs.Texts.{file_text}
use Rattle.ql_schedule.specs.Texts.{event_fields}
use Rattle.ql_schedule.proofs.print.push_events.Given as goal

abbrev pub invariant-loop-event : goal.invariant-loop-event
invariant-loop-event l = l.out.items ≡ l.initial.out.items ++ file_text (map (event_fields l.t.program l.s.objects) (take l.event-index l.s.events))

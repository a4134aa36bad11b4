use Rattle.std.proofs.Common.{◌≡◌, ◌++◌, length}
use Rattle.ql_lines.specs.Fields.{Fields}
use Rattle.ql_schedule.specs.EventLines.{AreNumbers}
use Rattle.ql_schedule.specs.Parts.{parts_of}
use Rattle.ql_schedule.proofs.event_parts.numbers.Given as goal

abbrev pub invariant-loop-part : goal.invariant-loop-part
invariant-loop-part l = (done : Fields) × (parts_of l.text ≡ done ++ parts_of l.rest) × AreNumbers done l.numbers.items

abbrev pub decreases-loop-part : goal.decreases-loop-part
decreases-loop-part l = length l.rest

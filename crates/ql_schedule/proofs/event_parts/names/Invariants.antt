use Rattle.std.proofs.Common.{◌≡◌, ◌++◌, length}
use Rattle.std.specs.List.{AllByRecursion}
use Rattle.ql_base.specs.Names.{IsName}
use Rattle.ql_schedule.specs.Parts.{parts_of}
use Rattle.ql_schedule.proofs.event_parts.names.Given as goal

abbrev pub invariant-loop-part : goal.invariant-loop-part
invariant-loop-part l = (parts_of l.text ≡ l.words.items ++ parts_of l.rest) × AllByRecursion IsName l.words.items

abbrev pub decreases-loop-part : goal.decreases-loop-part
decreases-loop-part l = length l.rest

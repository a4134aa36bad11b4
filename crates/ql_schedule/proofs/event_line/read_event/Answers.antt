use Rattle.std.proofs.Common.{◌≡◌, Option, Some, None}
use Rattle.std.specs.Prelude.{MatchOption}
use Rattle.ql_lines.specs.Fields.{Fields}
use Rattle.ql_schedule.specs.declared.event_line.EventLine.{EventLine}
use Rattle.ql_schedule.specs.EventLines.{IsEventLine}
use Rattle.ql_schedule.specs.Parts.{parts_of}
use Rattle.ql_schedule.proofs.event_line.read_event.Goals as goal

none-read : (parts : Fields) (read : Option EventLine) → read ≡ None → MatchOption read ((l : EventLine) → IsEventLine parts l → ⊥) (λ l. IsEventLine parts l) → (l : EventLine) → IsEventLine parts l → ⊥
none-read parts None is none = none
none-read parts (Some l) is none = absurd (let never : Some l ≡ None = is in cc)

pub returns-in-None : goal.returns-in-None
returns-in-None c = λ l is. none-read (parts_of c.args.text.now) c.in_ok-line.field-0 c.in-None.is c.in_ok-line.ensures l is.0

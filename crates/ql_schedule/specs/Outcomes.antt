-- The state of reading after one more line, and the content of a file that ends there.
use Rattle.std.specs.Prelude.{ℕ, ◌≡◌, Bool, true, false, Some, None, Result, Ok, Err}
use Rattle.ql_lang.specs.declared.program.Program.{Program}
use Rattle.ql_lines.specs.declared.fault.Broken.{Broken}
use Rattle.ql_lines.specs.declared.fault.FileFault.{FileFault}
use Rattle.ql_lines.specs.declared.fault.FileFault.TheVariants as file
use Rattle.ql_lines.specs.declared.fault.LineFault.{LineFault}
use Rattle.ql_lines.specs.Fields.{Fields}
use Rattle.ql_schedule.specs.declared.event_line.EventLine.{EventLine}
use Rattle.ql_schedule.specs.declared.fault.SchedFault.{SchedFault}
use Rattle.ql_schedule.specs.declared.fault.SchedFault.TheVariants as fault
use Rattle.ql_schedule.specs.declared.header.Declaration.{Declaration}
use Rattle.ql_schedule.specs.declared.header.Declaration.TheVariants.{Object, Events}
use Rattle.ql_schedule.specs.declared.reading.Reading.{Reading}
use Rattle.ql_schedule.specs.declared.reading.Reading.TheVariants.{Untitled, Titled, Declaring, Running}
use Rattle.ql_schedule.specs.declared.rules.Faults.{Faults}
use Rattle.ql_schedule.specs.declared.rules.SchedRule.{SchedRule}
use Rattle.ql_schedule.specs.declared.rules.SchedRule.TheVariants.{Unexpected, Unknown, Kind, Range, TooMany, Twice}
use Rattle.ql_schedule.specs.declared.schedule.Schedule.{Schedule}
use Rattle.ql_schedule.specs.EventLines.{IsEventIn}
use Rattle.ql_schedule.specs.Headers.{IsDeclaration, IsReplicas, IsTitle}
use Rattle.ql_schedule.specs.Judging.{declaration_faults, event_faults, replicas_faults}
use Rattle.ql_schedule.specs.Makings.{event_of, of_replicas, replicas_with, with_event, with_object}
use Rattle.ql_schedule.specs.Rules.{lowest, no_faults}

-- ---- one line

-- A line spells a thing, breaks no rule, and leads to the next state of reading; or it spells a thing, and this is the
-- lowest rule that it breaks; or it spells no such thing.
module _ {L : Type 0} (Is : L → Type 0) (faults_of : L → Faults) (next : L → Reading) where
  pub record Makes (after : Reading) : Type 0 where
    pub line : L
    pub is : Is line
    pub lawful : lowest (faults_of line) ≡ None
    pub to : after ≡ next line

  pub record Violates (rule : SchedRule) : Type 0 where
    pub line : L
    pub is : Is line
    pub unlawful : lowest (faults_of line) ≡ Some rule

  abbrev pub ExtendsScheduleAs : Result Reading SchedRule → Type 0
  ExtendsScheduleAs (Ok after) = Makes after
  ExtendsScheduleAs (Err Unexpected) = (line : L) → Is line → ⊥
  ExtendsScheduleAs (Err rule) = Violates rule

abbrev pub after_declaration : Program → Schedule → Declaration → Reading
after_declaration p s (Object name kind) = Declaring (with_object p s name kind)
after_declaration p s Events = Running s s.replicas

abbrev pub after_event : Program → Schedule → ℕ → EventLine → Reading
after_event p s replicas l = Running (with_event s (event_of p s l)) (replicas_with replicas l)

-- the state of reading after a line with these parts, or the lowest rule that it breaks
abbrev pub ExtendsSchedule : Program → Reading → Fields → Result Reading SchedRule → Type 0
ExtendsSchedule p Untitled parts = ExtendsScheduleAs (IsTitle parts) (λ _. no_faults) Titled
ExtendsSchedule p (Titled version) parts = ExtendsScheduleAs (IsReplicas parts) replicas_faults (λ n. Declaring (of_replicas version n))
ExtendsSchedule p (Declaring s) parts = ExtendsScheduleAs (IsDeclaration parts) (declaration_faults p s) (after_declaration p s)
ExtendsSchedule p (Running s replicas) parts = ExtendsScheduleAs (IsEventIn s.version parts) (event_faults p s replicas) (after_event p s replicas)

-- the state of reading after a declaration, given the schedule and whether it was the keyword before the events
abbrev pub reading_after : Schedule → Result Bool (LineFault SchedRule) → Result Reading (LineFault SchedRule)
reading_after s (Ok true) = Ok (Running s s.replicas)
reading_after s (Ok false) = Ok (Declaring s)
reading_after s (Err fault) = Err fault

-- the state of reading after an event, given the schedule and the number of replicas after it
abbrev pub running_after : Schedule → Result ℕ (LineFault SchedRule) → Result Reading (LineFault SchedRule)
running_after s (Ok replicas) = Ok (Running s replicas)
running_after s (Err fault) = Err fault

-- ---- the end of a file

-- a file may end after the keyword `events` or after an event; otherwise the fault is at the line after its last one
abbrev pub Closes : Reading → ℕ → Result Schedule (Broken SchedRule) → Type 0
Closes (Running s replicas) end x = x ≡ Ok s
Closes other end x = x ≡ Err (record { line = end; rule = Unexpected })

-- ---- faults of a file

abbrev pub rule_at : SchedRule → ℕ → SchedFault
rule_at Unexpected line = fault.Unexpected line
rule_at Unknown line = fault.Unknown line
rule_at Kind line = fault.Kind line
rule_at Range line = fault.Range line
rule_at TooMany line = fault.TooMany line
rule_at Twice line = fault.Twice line

abbrev pub fault_of : FileFault SchedRule → SchedFault
fault_of (file.Broken broken) = rule_at broken.rule broken.line
fault_of file.NoMemory = fault.NoMemory

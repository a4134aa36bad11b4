-- The files of schedules.
use Rattle.std.specs.Prelude.{◌≡◌, Result}
use Rattle.ql_lang.specs.declared.program.Program.{Program}
use Rattle.ql_lines.specs.declared.fault.Broken.{Broken}
use Rattle.ql_lines.specs.Outcomes.{FirstFault, Says}
use Rattle.ql_lines.specs.Lines.{Ahead, Numbered}
use Rattle.ql_schedule.specs.declared.fault.SchedFault.{SchedFault}
use Rattle.ql_schedule.specs.declared.fault.SchedFault.TheVariants as fault
use Rattle.ql_schedule.specs.declared.reading.Reading.{Reading}
use Rattle.ql_schedule.specs.declared.reading.Reading.TheVariants.{Untitled}
use Rattle.ql_schedule.specs.declared.rules.SchedRule.{SchedRule}
use Rattle.ql_schedule.specs.declared.schedule.Schedule.{Schedule}
use Rattle.ql_schedule.specs.Outcomes.{Closes, ExtendsSchedule, rule_at}
use Rattle.ql_schedule.specs.Parts.{parts_of}

abbrev pub GivesLine : Program → Reading → Numbered → Result Reading SchedRule → Type 0
GivesLine p read l x = ExtendsSchedule p read (parts_of l.text) x

-- the file spells this schedule
abbrev pub IsScheduleFile : Program → Ahead → Schedule → Type 0
IsScheduleFile p file s = Says (GivesLine p) Closes Untitled file s

-- the first fault of the file: its first line that breaks a rule, and the lowest rule that it breaks; or its end
pub record IsFirstFault (p : Program) (file : Ahead) (f : SchedFault) : Type 0 where
  pub broken : Broken SchedRule
  pub first : FirstFault (GivesLine p) Closes Untitled file broken
  pub is : f ≡ rule_at broken.rule broken.line

-- a refusal is the first fault, or out of memory
abbrev pub IsRefusal : Program → Ahead → SchedFault → Type 0
IsRefusal p file fault.NoMemory = Unit {0}
IsRefusal p file f = IsFirstFault p file f

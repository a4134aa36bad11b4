-- What is said of two files.
use Rattle.std.proofs.Common.{◌≡◌, ℕ, List, Some}
use Rattle.ql_commands.specs.Sources.{IsSourceOf}
use Rattle.ql_lang.specs.declared.program.Program.{Program}
use Rattle.ql_lang.specs.Programs.{Source, source_of}
use Rattle.ql_lines.specs.Lines.{Ahead, ahead_from}
use Rattle.ql_parse.specs.Parsing.{IsProgramText}
use Rattle.ql_schedule.specs.declared.fault.SchedFault.{SchedFault}
use Rattle.ql_schedule.specs.declared.fault.SchedFault.TheVariants.{Unexpected, Unknown, Kind, Range, TooMany, Twice, NoMemory}
use Rattle.ql_schedule.specs.declared.schedule.Schedule.{Schedule}
use Rattle.ql_schedule.specs.Files.{IsFirstFault, IsRefusal, IsScheduleFile}
use Rattle.ql_running.specs.Runs.{BadScheduleSays}
use Rattle.ql_running.specs.ScheduleFaults.{schedule_fault_text}
use Rattle.ql_schedule.proofs.SameFiles.{same-schedule-file}

-- a refusal that is reported is the first fault
first_fault : (p : Program) (file : Ahead) (f : SchedFault) (text : List ℕ) → IsRefusal p file f → schedule_fault_text f ≡ Some text → IsFirstFault p file f
first_fault p file (Unexpected line) text h told = h
first_fault p file (Unknown line) text h told = h
first_fault p file (Kind line) text h told = h
first_fault p file (Range line) text h told = h
first_fault p file (TooMany line) text h told = h
first_fault p file (Twice line) text h told = h
first_fault p file NoMemory text h told = absurd (cc)

-- the schedule that the other file says of one program that the source reads as, it says of each
says-same : ((bytes : List ℕ) (s t : Source) → IsProgramText bytes s → IsProgramText bytes t → s ≡ t)
    → (source file : List ℕ) (p q : Program) (s : Schedule) → IsSourceOf source p → IsSourceOf source q → IsScheduleFile p (ahead_from 1 file) s → IsScheduleFile q (ahead_from 1 file) s
says-same tree source file p q s p_is q_is says = same-schedule-file p q (tree source (source_of p) (source_of q) p_is.0 q_is.0) (ahead_from 1 file) s says

pub schedule_is_bad : ((bytes : List ℕ) (s t : Source) → IsProgramText bytes s → IsProgramText bytes t → s ≡ t)
    → ((p : Program) (file : Ahead) (s : Schedule) (f : SchedFault) → IsScheduleFile p file s → IsFirstFault p file f → ⊥)
    → (source file : List ℕ) (p : Program) (f : SchedFault) (text : List ℕ) → IsSourceOf source p → IsRefusal p (ahead_from 1 file) f → schedule_fault_text f ≡ Some text
    → BadScheduleSays source file text
schedule_is_bad tree apart source file p f text is h told =
    let first = first_fault p (ahead_from 1 file) f text h told in
    ((λ j. apart p (ahead_from 1 file) j.2 f (says-same tree source file j.0 p j.2 j.1 is j.3) first), p, is, f, first, told)

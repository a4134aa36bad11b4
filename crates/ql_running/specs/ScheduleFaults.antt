-- The line that reports the first fault of a schedule's file.
use Rattle.std.specs.Prelude.{ℕ, List, Option, None, Some, codes}
use Rattle.ql_reply.specs.Lines.{fault_line}
use Rattle.ql_schedule.specs.declared.fault.SchedFault.{SchedFault}
use Rattle.ql_schedule.specs.declared.fault.SchedFault.TheVariants.{Unexpected, Unknown, Kind, Range, TooMany, Twice, NoMemory}

-- bad schedule at LINE: RULE, and none where memory ran out
abbrev pub schedule_fault_text : SchedFault → Option (List ℕ)
schedule_fault_text (Unexpected line) = Some (fault_line (codes "schedule") line (codes "Unexpected"))
schedule_fault_text (Unknown line) = Some (fault_line (codes "schedule") line (codes "Unknown"))
schedule_fault_text (Kind line) = Some (fault_line (codes "schedule") line (codes "Kind"))
schedule_fault_text (Range line) = Some (fault_line (codes "schedule") line (codes "Range"))
schedule_fault_text (TooMany line) = Some (fault_line (codes "schedule") line (codes "TooMany"))
schedule_fault_text (Twice line) = Some (fault_line (codes "schedule") line (codes "Twice"))
schedule_fault_text NoMemory = None

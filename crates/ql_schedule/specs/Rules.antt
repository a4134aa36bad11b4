-- Of the rules that a line breaks, the lowest is reported.
use Rattle.std.specs.Prelude.{false, Option, Some, None, if◌then◌else◌}
use Rattle.ql_schedule.specs.declared.rules.Faults.{Faults}
use Rattle.ql_schedule.specs.declared.rules.SchedRule.{SchedRule}
use Rattle.ql_schedule.specs.declared.rules.SchedRule.TheVariants.{Unknown, Kind, Range, TooMany, Twice}

abbrev pub lowest : Faults → Option SchedRule
lowest f =
    if f.unknown then Some Unknown
    else if f.kind then Some Kind
    else if f.range then Some Range
    else if f.too_many then Some TooMany
    else if f.twice then Some Twice
    else None

abbrev pub no_faults : Faults
no_faults = record { unknown = false; kind = false; range = false; too_many = false; twice = false }

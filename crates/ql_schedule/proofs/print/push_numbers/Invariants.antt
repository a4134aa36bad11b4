use Rattle.std.proofs.Common.{◌≡◌, ◌++◌, map, take, decimal}
use Rattle.ql_lines.specs.Texts.{spaced_fields}
use Rattle.ql_schedule.proofs.print.push_numbers.Given as goal

abbrev pub invariant-loop-number : goal.invariant-loop-number
invariant-loop-number l = l.out.items ≡ l.initial.out.items ++ spaced_fields (map (decimal) (take l.number-index l.numbers))

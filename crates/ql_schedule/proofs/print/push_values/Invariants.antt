use Rattle.std.proofs.Common.{◌≡◌, ◌++◌, map, take}
use Rattle.ql_lines.specs.Texts.{spaced_fields}
use Rattle.ql_value.specs.Spelling.{value_text}
use Rattle.ql_schedule.proofs.print.push_values.Given as goal

abbrev pub invariant-loop-value : goal.invariant-loop-value
invariant-loop-value l = l.out.items ≡ l.initial.out.items ++ spaced_fields (map (value_text) (take l.value-index l.values))

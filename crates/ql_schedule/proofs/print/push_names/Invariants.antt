use Rattle.std.proofs.Common.{◌≡◌, ◌++◌, map, take}
use Rattle.ql_lines.specs.Texts.{spaced_fields}
use Rattle.ql_schedule.specs.Texts.{name_at}
use Rattle.ql_schedule.proofs.print.push_names.Given as goal

abbrev pub invariant-loop-id : goal.invariant-loop-id
invariant-loop-id l = l.out.items ≡ l.initial.out.items ++ spaced_fields (map (name_at l.names) (take l.id-index l.ids))

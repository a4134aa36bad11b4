use Rattle.std.proofs.Common.{◌≡◌, ◌++◌, map, take, decimal}
use Rattle.ql_lines.specs.Texts.{spaced_fields}
use Rattle.ql_report.proofs.parts.push_each_id.Given as goal

abbrev pub invariant-loop-id : goal.invariant-loop-id
invariant-loop-id l = l.out.items ≡ l.initial.out.items ++ spaced_fields (map decimal (take l.id-index l.ids))

use Rattle.std.proofs.Common.{◌≡◌, ◌++◌, length, map, decimal}
use Rattle.std.specs.List.{AllByRecursion}
use Rattle.ql_base.specs.IdLists.{IsAscending}
use Rattle.ql_lines.specs.Fields.{IsId, fields_of}
use Rattle.ql_lines.proofs.ids.ascending_ids.Given as goal

abbrev pub invariant-loop-id : goal.invariant-loop-id
invariant-loop-id l = (fields_of l.text ≡ map decimal l.ids ++ fields_of l.rest) × AllByRecursion IsId l.ids × IsAscending l.ids

abbrev pub decreases-loop-id : goal.decreases-loop-id
decreases-loop-id l = length (fields_of l.rest)

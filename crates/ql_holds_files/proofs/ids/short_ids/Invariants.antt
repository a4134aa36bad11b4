use Rattle.std.proofs.Common.{◌≡◌, ◌<◌, ℕ, [], ◌∷◌, ◌++◌, length, map, decimal}
use Rattle.std.specs.List.{AllByRecursion}
use Rattle.ql_base.specs.IdLists.{IsAscending}
use Rattle.ql_lines.specs.Fields.{IsId, fields_of}
use Rattle.ql_holds_files.proofs.ids.short_ids.Given as goal

abbrev pub invariant-loop-id : goal.invariant-loop-id
invariant-loop-id l =
    (fields_of l.text ≡ map decimal l.ids ++ fields_of l.rest) × AllByRecursion IsId l.ids × IsAscending l.ids
    × ((id : ℕ) → l.last < id → IsAscending (l.ids ++ id ∷ []))

abbrev pub decreases-loop-id : goal.decreases-loop-id
decreases-loop-id l = length (fields_of l.rest)

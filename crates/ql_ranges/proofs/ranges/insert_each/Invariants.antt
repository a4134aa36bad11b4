use Rattle.std.proofs.Common.{◌≡◌, ℕ, ◌||◌, take}
use Rattle.ql_base.specs.IdLists.{IsAscending, has_id}
use Rattle.ql_ranges.specs.Ranges.{ids_of}
use Rattle.ql_ranges.proofs.ranges.insert_each.Given as goal

abbrev pub invariant-loop-id : goal.invariant-loop-id
invariant-loop-id l = record {
  ascending : IsAscending (ids_of l.set);
  has : (a : ℕ) → has_id (ids_of l.set) a ≡ (has_id (ids_of l.initial.set) a || has_id (take l.id-index l.ids) a);
}

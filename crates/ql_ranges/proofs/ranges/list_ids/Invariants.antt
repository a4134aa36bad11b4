use Rattle.std.proofs.Common.{◌≡◌, ℕ, take}
use Rattle.ql_base.specs.IdLists.{IsAscending, has_id}
use Rattle.ql_ranges.specs.Ranges.{ids_of}
use Rattle.ql_ranges.proofs.ranges.list_ids.Given as goal

abbrev pub invariant-loop-range : goal.invariant-loop-range
invariant-loop-range l = record {
  ascending : IsAscending l.ids;
  has : (a : ℕ) → has_id l.ids a ≡ has_id (ids_of (take l.range-index l.ranges)) a;
}

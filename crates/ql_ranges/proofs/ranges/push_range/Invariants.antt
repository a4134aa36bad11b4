use Rattle.std.proofs.Common.{◌≡◌, ℕ, ◌||◌, ◌&&◌, nat_le, nat_lt}
use Rattle.ql_base.specs.IdLists.{IsAscending, has_id}
use Rattle.ql_ranges.proofs.ranges.push_range.Given as goal

abbrev pub invariant-loop-id : goal.invariant-loop-id
invariant-loop-id l = record {
  ascending : IsAscending l.ids;
  has : (a : ℕ) → has_id l.ids a ≡ (has_id l.initial.ids a || (nat_le l.fn.range.from a && nat_lt a l.id));
}

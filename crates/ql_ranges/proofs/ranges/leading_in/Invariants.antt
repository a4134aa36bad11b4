use Rattle.std.proofs.Common.{◌≡◌, ◌<◌, ◌≤◌, ◌-◌, ℕ, true, length, get_or}
use Rattle.ql_base.specs.IdLists.{has_id}
use Rattle.ql_ranges.specs.Ranges.{ids_of}
use Rattle.ql_ranges.proofs.ranges.leading_in.Given as goal

abbrev pub invariant-loop-count : goal.invariant-loop-count
invariant-loop-count l = record {
  inside : l.count ≤ length l.ids;
  has : (k : ℕ) → k < l.count → has_id (ids_of l.ranges) (get_or l.ids k 0) ≡ true;
}

abbrev pub decreases-loop-count : goal.decreases-loop-count
decreases-loop-count l = length l.ids - l.count

use Rattle.std.proofs.Common.{◌≡◌, ◌<◌, ◌≤◌, ◌-◌, ℕ, true, length, slice_index}
use Rattle.ql_base.specs.IdLists.{has_id}
use Rattle.ql_plain_holder.proofs.plain_holder.leading_in.Given as goal

abbrev pub invariant-loop-count : goal.invariant-loop-count
invariant-loop-count l = record {
  inside : l.count ≤ length l.ids;
  has : (k : ℕ) → k < l.count → has_id l.set (slice_index l.ids k) ≡ true;
}

abbrev pub decreases-loop-count : goal.decreases-loop-count
decreases-loop-count l = length l.ids - l.count

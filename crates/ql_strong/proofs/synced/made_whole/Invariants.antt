use Rattle.std.proofs.Common.{◌≤◌, ◌-◌, length}
use Rattle.ql_strong.specs.Within.{IsUnderWay}
use Rattle.ql_strong.proofs.synced.made_whole.Given as goal

abbrev pub invariant-loop-count : goal.invariant-loop-count
invariant-loop-count g l = record {
  fits : g.H.Holder.fits l.whole l.x;
  inside : l.count ≤ length l.committed;
  way : IsUnderWay (g.H.Holder.received l.whole) l.committed l.count;
}

abbrev pub decreases-loop-count : goal.decreases-loop-count
decreases-loop-count g l = length l.committed - l.count

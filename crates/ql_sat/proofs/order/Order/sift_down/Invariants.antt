use Rattle.std.proofs.Common.{◌-◌}
use Rattle.ql_sat.proofs.order.Order.sift_down.Given as goal

abbrev pub decreases-loop-place : goal.decreases-loop-place
decreases-loop-place l = l.size - l.place

use Rattle.ql_sat.proofs.order.Order.sift_up.Given as goal

abbrev pub decreases-loop-place : goal.decreases-loop-place
decreases-loop-place l = l.place

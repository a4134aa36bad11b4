use Rattle.ql_slimming.specs.Stability.{IsFirstOpen}
use Rattle.ql_slimming.proofs.stability.first_open.Given as goal

abbrev pub invariant-loop-k : goal.invariant-loop-k
invariant-loop-k l = IsFirstOpen l.x l.object l.views l.k l.first

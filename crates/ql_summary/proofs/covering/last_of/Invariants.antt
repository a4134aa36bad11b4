use Rattle.std.proofs.Common.{take}
use Rattle.ql_summary.specs.Covering.{IsLast}
use Rattle.ql_summary.proofs.covering.last_of.Given as goal

abbrev pub invariant-loop-k : goal.invariant-loop-k
invariant-loop-k l = IsLast l.x (take l.k l.ids) l.last

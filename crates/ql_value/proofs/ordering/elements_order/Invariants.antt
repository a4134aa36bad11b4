use Rattle.std.proofs.Common.{◌≡◌, drop}
use Rattle.std.specs.Cmp.Lexicographic.{slice_cmp}
use Rattle.ql_value.specs.Order.{scalar_cmp}
use Rattle.ql_value.proofs.ordering.elements_order.Given as goal

abbrev pub invariant-loop-k : goal.invariant-loop-k
invariant-loop-k l = slice_cmp scalar_cmp l.a l.b ≡ slice_cmp scalar_cmp (drop l.k l.a) (drop l.k l.b)

use Rattle.std.proofs.Common.{◌≡◌, drop, slice_get}
use Rattle.ql_typing.specs.Operations.{kinds_from, op_kinds}
use Rattle.ql_typing.proofs.lookup.find_kind.Given as goal

abbrev pub invariant-loop-k : goal.invariant-loop-k
invariant-loop-k l = slice_get (kinds_from l.k (drop l.k l.types)) l.left ≡ slice_get (op_kinds l.types) l.number

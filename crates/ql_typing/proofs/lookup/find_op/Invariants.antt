use Rattle.std.proofs.Common.{◌≡◌, drop, slice_get}
use Rattle.ql_typing.specs.Operations.{all_ops}
use Rattle.ql_typing.proofs.lookup.find_op.Given as goal

abbrev pub invariant-loop-declared : goal.invariant-loop-declared
invariant-loop-declared l = slice_get (all_ops (drop l.declared-index l.types)) l.left ≡ slice_get (all_ops l.types) l.number

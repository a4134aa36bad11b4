use Rattle.std.proofs.Common.{◌≡◌, take}
use Rattle.ql_typing.specs.Operations.{op_kinds}
use Rattle.ql_ground.proofs.goal.types_of_operations.Given as goal

abbrev pub invariant-loop-o : goal.invariant-loop-o
invariant-loop-o l = l.types.items ≡ take l.o (op_kinds l.t.program.types)

use Rattle.std.proofs.Common.{◌≡◌, [], drop}
use Rattle.ql_typing.specs.Faults.{names_met}
use Rattle.ql_typing.specs.Programs.{op_names}
use Rattle.ql_typing.proofs.typed.number_ops.Given as goal

abbrev pub invariant-loop-declared : goal.invariant-loop-declared
invariant-loop-declared l = names_met l.ops (op_names (drop l.declared-index l.types)) ≡ names_met [] (op_names l.types)

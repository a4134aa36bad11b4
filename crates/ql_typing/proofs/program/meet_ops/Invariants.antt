use Rattle.std.proofs.Common.{drop}
use Rattle.ql_typing.specs.Invariant.{IsRest}
use Rattle.ql_typing.specs.Programs.{op_names}
use Rattle.ql_typing.proofs.program.meet_ops.Given as goal

abbrev pub invariant-loop-declared : goal.invariant-loop-declared
invariant-loop-declared l = IsRest l.initial.names l.names l.fault (op_names (drop l.declared-index l.types)) (op_names l.types)

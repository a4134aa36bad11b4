use Rattle.std.proofs.Common.{◌≡◌, drop}
use Rattle.ql_typing.specs.Faults.{earlier, first_fault}
use Rattle.ql_typing.specs.Programs.{above, op_places}
use Rattle.ql_typing.proofs.program.ops_above_limit.Given as goal

abbrev pub invariant-loop-declared : goal.invariant-loop-declared
invariant-loop-declared l = earlier l.fault (first_fault (above l.left (op_places (drop l.declared-index l.types)))) ≡ first_fault (above l.limit (op_places l.types))

use Rattle.ql_typing.specs.Programs.{type_faults}
use Rattle.ql_typing.specs.Invariant.{SoFar}
use Rattle.ql_typing.proofs.program.types_fault.Given as goal

abbrev pub invariant-loop-declared : goal.invariant-loop-declared
invariant-loop-declared l = SoFar (type_faults l.known) l.fault l.declared-index l.types

use Rattle.ql_typing.specs.Programs.{bind_faults}
use Rattle.ql_typing.specs.Invariant.{SoFar}
use Rattle.ql_typing.proofs.operation.binds_fault.Given as goal

abbrev pub invariant-loop-bind : goal.invariant-loop-bind
invariant-loop-bind l = SoFar (bind_faults l.scope) l.fault l.bind-index l.binds

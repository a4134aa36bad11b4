use Rattle.ql_typing.specs.Programs.{txn_faults}
use Rattle.ql_typing.specs.Invariant.{SoFar}
use Rattle.ql_typing.proofs.program.txns_fault.Given as goal

abbrev pub invariant-loop-declared : goal.invariant-loop-declared
invariant-loop-declared l = SoFar (txn_faults l.known) l.fault l.declared-index l.txns

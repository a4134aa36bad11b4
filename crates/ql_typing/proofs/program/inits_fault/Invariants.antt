use Rattle.ql_typing.specs.Programs.{init_faults}
use Rattle.ql_typing.specs.Invariant.{SoFar}
use Rattle.ql_typing.proofs.program.inits_fault.Given as goal

abbrev pub invariant-loop-field : goal.invariant-loop-field
invariant-loop-field l = SoFar (init_faults) l.fault l.field-index l.fields

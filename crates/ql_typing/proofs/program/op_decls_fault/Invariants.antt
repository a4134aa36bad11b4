use Rattle.std.proofs.Common.{◌≡◌}
use Rattle.ql_typing.specs.Programs.{op_decl_faults}
use Rattle.ql_typing.specs.Invariant.{SoFar}
use Rattle.ql_typing.proofs.program.op_decls_fault.Given as goal

abbrev pub invariant-loop-op : goal.invariant-loop-op
invariant-loop-op l = SoFar (op_decl_faults l.known l.initial.names l.fields) l.fault l.op-index l.ops × (l.names ≡ l.initial.names)

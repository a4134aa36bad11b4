use Rattle.ql_typing.specs.Programs.{stmt_faults}
use Rattle.ql_typing.specs.Invariant.{SoFar}
use Rattle.ql_typing.proofs.operation.stmts_fault.Given as goal

abbrev pub invariant-loop-stmt : goal.invariant-loop-stmt
invariant-loop-stmt l = SoFar (stmt_faults l.fields l.scope) l.fault l.stmt-index l.stmts

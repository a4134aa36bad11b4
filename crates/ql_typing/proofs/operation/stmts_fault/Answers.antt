use Rattle.ql_typing.specs.Programs.{stmt_faults}
use Rattle.ql_typing.proofs.Each.{each_start, each_step, each_end}
use Rattle.ql_typing.proofs.operation.stmts_fault.Goals as goal

pub loop-stmt-init : goal.loop-stmt-init
loop-stmt-init c = each_start (stmt_faults c.args.fields.now c.args.scope.now) c.args.stmts.now

pub loop-stmt-preserved : goal.loop-stmt-preserved
loop-stmt-preserved c =
    rw (c.first-fault.ensures, c.stmt_fault.ensures)
    (each_step (stmt_faults c.args.fields.now c.args.scope.now) c.args.stmts.now c.loop-stmt.fault c.loop-stmt.stmt-index c.stmt-item.result c.loop-stmt-test.true c.stmt-item.is c.loop-stmt.invariant)

pub returns : goal.returns
returns c = each_end (stmt_faults c.args.fields.now c.args.scope.now) c.args.stmts.now c.loop-stmt.fault c.loop-stmt.stmt-index c.loop-stmt-test.false c.loop-stmt.invariant

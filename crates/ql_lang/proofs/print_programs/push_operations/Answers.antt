use Rattle.ql_lang.specs.Programs.{operation_of}
use Rattle.ql_lang.specs.ProgramSpelling.{operation_text}
use Rattle.ql_lang.proofs.Appending.{none_left, one_fewer}
use Rattle.ql_lang.proofs.print_programs.push_operations.Goals as goal

pub loop-op-preserved : goal.loop-op-preserved
loop-op-preserved c =
    one_fewer operation_text operation_of c.args.ops.now c.loop-op.op-index c.op-item.result c.loop-op.out.items c.push_operation.new.out.items _ c.loop-op-test.true c.op-item.is c.loop-op.invariant c.in_ok-push_operation.ensures

pub returns : goal.returns
returns c = none_left operation_text operation_of _ c.loop-op.op-index c.loop-op.out.items _ c.loop-op-test.false c.loop-op.invariant

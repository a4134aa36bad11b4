use Rattle.std.proofs.Common.{refl, ◌∙◌}
use Rattle.ql_typing.specs.Programs.{op_decl_faults}
use Rattle.ql_typing.proofs.Each.{each_start, each_step, each_end}
use Rattle.ql_typing.proofs.program.op_decls_fault.Goals as goal

pub loop-op-init : goal.loop-op-init
loop-op-init c = (each_start (op_decl_faults c.args.known.now c.args.names.now c.args.fields.now) c.args.ops.now, refl)

pub loop-op-preserved : goal.loop-op-preserved
loop-op-preserved c = (
  rw (c.first-fault.ensures, c.in_ok-here.ensures.fault, c.loop-op.invariant.1)
      (each_step (op_decl_faults c.args.known.now c.args.names.now c.args.fields.now) c.args.ops.now c.loop-op.fault c.loop-op.op-index c.op-item.result c.loop-op-test.true c.op-item.is c.loop-op.invariant.0),
  c.in_ok-here.ensures.names ∙ c.loop-op.invariant.1,
)

pub returns : goal.returns
returns c = each_end (op_decl_faults c.args.known.now c.args.names.now c.args.fields.now) c.args.ops.now c.loop-op.fault c.loop-op.op-index c.loop-op-test.false c.loop-op.invariant.0

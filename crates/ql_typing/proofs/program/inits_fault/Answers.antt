use Rattle.ql_typing.specs.Programs.{init_faults}
use Rattle.ql_typing.proofs.Each.{each_start, each_step, each_end}
use Rattle.ql_typing.proofs.program.inits_fault.Goals as goal

pub loop-field-init : goal.loop-field-init
loop-field-init c = each_start (init_faults) c.args.fields.now

pub loop-field-preserved : goal.loop-field-preserved
loop-field-preserved c =
    rw (c.first-fault.ensures, c.init_fault.ensures)
    (each_step (init_faults) c.args.fields.now c.loop-field.fault c.loop-field.field-index c.field-item.result c.loop-field-test.true c.field-item.is c.loop-field.invariant)

pub returns : goal.returns
returns c = each_end (init_faults) c.args.fields.now c.loop-field.fault c.loop-field.field-index c.loop-field-test.false c.loop-field.invariant

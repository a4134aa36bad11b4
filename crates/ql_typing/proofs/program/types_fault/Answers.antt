use Rattle.ql_typing.specs.Programs.{type_faults}
use Rattle.ql_typing.proofs.Each.{each_start, each_step, each_end}
use Rattle.ql_typing.proofs.program.types_fault.Goals as goal

pub loop-declared-init : goal.loop-declared-init
loop-declared-init c = each_start (type_faults c.args.known.now) c.args.types.now

pub loop-declared-preserved : goal.loop-declared-preserved
loop-declared-preserved c =
    rw (c.first-fault.ensures, c.in_ok-here.ensures)
    (each_step (type_faults c.args.known.now) c.args.types.now c.loop-declared.fault c.loop-declared.declared-index c.declared-item.result c.loop-declared-test.true c.declared-item.is c.loop-declared.invariant)

pub returns : goal.returns
returns c = each_end (type_faults c.args.known.now) c.args.types.now c.loop-declared.fault c.loop-declared.declared-index c.loop-declared-test.false c.loop-declared.invariant

use Rattle.ql_typing.specs.Programs.{bind_faults}
use Rattle.ql_typing.proofs.Each.{each_start, each_step, each_end}
use Rattle.ql_typing.proofs.operation.binds_fault.Goals as goal

pub loop-bind-init : goal.loop-bind-init
loop-bind-init c = each_start (bind_faults c.args.scope.now) c.args.binds.now

pub loop-bind-preserved : goal.loop-bind-preserved
loop-bind-preserved c =
    rw (c.first-fault.ensures, c.bind_fault.ensures)
    (each_step (bind_faults c.args.scope.now) c.args.binds.now c.loop-bind.fault c.loop-bind.bind-index c.bind-item.result c.loop-bind-test.true c.bind-item.is c.loop-bind.invariant)

pub returns : goal.returns
returns c = each_end (bind_faults c.args.scope.now) c.args.binds.now c.loop-bind.fault c.loop-bind.bind-index c.loop-bind-test.false c.loop-bind.invariant

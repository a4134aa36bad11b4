use Rattle.ql_typing.specs.ContractFaults.{point_faults}
use Rattle.ql_typing.proofs.Each.{each_start, each_step, each_end}
use Rattle.ql_typing.proofs.contract.points_fault.Goals as goal

pub loop-point-init : goal.loop-point-init
loop-point-init c = each_start (point_faults c.args.for_txn c.args.vars.now) c.args.points.now

pub loop-point-preserved : goal.loop-point-preserved
loop-point-preserved c =
    rw (c.first-fault.ensures, c.point_fault.ensures)
    (each_step (point_faults c.args.for_txn c.args.vars.now) c.args.points.now c.loop-point.fault c.loop-point.point-index c.point-item.result c.loop-point-test.true c.point-item.is c.loop-point.invariant)

pub returns : goal.returns
returns c = each_end (point_faults c.args.for_txn c.args.vars.now) c.args.points.now c.loop-point.fault c.loop-point.point-index c.loop-point-test.false c.loop-point.invariant

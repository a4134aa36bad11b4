use Rattle.ql_typing.specs.ContractFaults.{op_faults}
use Rattle.std.specs.Prelude.{option_copied}
use Rattle.ql_typing.proofs.Each.{each_start, each_step, each_end}
use Rattle.ql_typing.proofs.contract.ops_fault.Goals as goal

pub loop-name-init : goal.loop-name-init
loop-name-init c = each_start (op_faults (option_copied c.args.known)) c.args.names.now

pub loop-name-preserved : goal.loop-name-preserved
loop-name-preserved c =
    rw (c.first-fault.ensures, c.op_fault.ensures)
    (each_step (op_faults (option_copied c.args.known)) c.args.names.now c.loop-name.fault c.loop-name.name-index c.name-item.result c.loop-name-test.true c.name-item.is c.loop-name.invariant)

pub returns : goal.returns
returns c = each_end (op_faults (option_copied c.args.known)) c.args.names.now c.loop-name.fault c.loop-name.name-index c.loop-name-test.false c.loop-name.invariant

use Rattle.ql_typing.specs.ContractFaults.{choice_faults}
use Rattle.std.specs.Prelude.{option_copied}
use Rattle.ql_typing.proofs.Each.{each_start, each_step, each_end}
use Rattle.ql_typing.proofs.contract.choices_fault.Goals as goal

pub loop-var-init : goal.loop-var-init
loop-var-init c = each_start (choice_faults (option_copied c.args.known)) c.args.vars.now

pub loop-var-preserved : goal.loop-var-preserved
loop-var-preserved c =
    rw (c.first-fault.ensures, c.in_ok-choice.ensures)
    (each_step (choice_faults (option_copied c.args.known)) c.args.vars.now c.loop-var.fault c.loop-var.var-index c.var-item.result c.loop-var-test.true c.var-item.is c.loop-var.invariant)

pub returns : goal.returns
returns c = each_end (choice_faults (option_copied c.args.known)) c.args.vars.now c.loop-var.fault c.loop-var.var-index c.loop-var-test.false c.loop-var.invariant

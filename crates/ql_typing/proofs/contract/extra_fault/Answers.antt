use Rattle.std.proofs.Common.{ap, sym, ◌∙◌}
use Rattle.ql_lang.specs.declared.contract.Var.{Var}
use Rattle.ql_typing.specs.ContractFaults.{extra_var}
use Rattle.ql_typing.specs.Faults.{first_fault, earlier}
use Rattle.ql_typing.proofs.Each.{each_start, each_step, each_end}
use Rattle.ql_typing.proofs.Mapped.{each-map}
use Rattle.ql_typing.proofs.contract.extra_fault.Goals as goal

pub loop-var-init : goal.loop-var-init
loop-var-init c = each_start (λ (v : Var). extra_var v.name) c.args.vars.now

pub loop-var-preserved : goal.loop-var-preserved
unfolding extra_var first_fault earlier
loop-var-preserved c =
    rw c.first-fault.ensures
    (each_step (λ (v : Var). extra_var v.name) c.args.vars.now c.loop-var.fault c.loop-var.var-index c.var-item.result c.loop-var-test.true c.var-item.is c.loop-var.invariant)

pub returns : goal.returns
returns c =
    each_end (λ (v : Var). extra_var v.name) c.args.vars.now c.loop-var.fault c.loop-var.var-index c.loop-var-test.false c.loop-var.invariant
    ∙ ap first_fault (sym (each-map (λ (v : Var). v.name) extra_var c.args.vars.now))

use Rattle.std.proofs.Common.{[]}
use Rattle.ql_lang.specs.declared.contract.Var.{Var}
use Rattle.ql_typing.specs.Resolved.{choice_of}
use Rattle.ql_typing.proofs.Mapped.{mapped_step, mapped_end}
use Rattle.ql_typing.proofs.build.build_choices.Goals as goal

pub loop-var-init : goal.loop-var-init
loop-var-init c = c.in_ok-choices.ensures.items

pub loop-var-preserved : goal.loop-var-preserved
loop-var-preserved c =
    rw (c.in_ok-push_choice.ensures, c.items.ensures)
    (mapped_step (λ (v : Var). choice_of c.args.ops.now v.ops) c.args.vars.now c.loop-var.var-index [] c.loop-var.choices.items c.var-item.result c.loop-var-test.true c.var-item.is c.loop-var.invariant)

pub returns : goal.returns
returns c = mapped_end (λ (v : Var). choice_of c.args.ops.now v.ops) c.args.vars.now c.loop-var.var-index [] c.loop-var.choices.items c.loop-var-test.false c.loop-var.invariant

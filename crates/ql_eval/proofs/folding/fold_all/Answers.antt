use Rattle.std.proofs.Common.{◌∙◌, sym}
use Rattle.ql_typing.specs.Operations.{all_ops}
use Rattle.ql_eval.proofs.FoldSteps.{more_effects, no_effects, stuck_effect}
use Rattle.ql_eval.proofs.folding.fold_all.Goals as goal

pub returns-in-None : goal.returns-in-None
returns-in-None c =
    sym (c.loop-effect.invariant ∙ stuck_effect (λ e. e.now) (all_ops c.args.t.now.program.types) c.loop-effect.state c.args.effects.now c.loop-effect.effect-index c.effect-item.result c.loop-effect-test.true c.effect-item.is (sym c.in-None.is ∙ c.in_ok-next.ensures))

pub loop-effect-preserved : goal.loop-effect-preserved
loop-effect-preserved c =
    c.loop-effect.invariant ∙ more_effects (λ e. e.now) (all_ops c.args.t.now.program.types) c.loop-effect.state c.args.effects.now c.loop-effect.effect-index c.effect-item.result c.in-Some.next c.loop-effect-test.true c.effect-item.is (sym c.in-Some.is ∙ c.in_ok-next.ensures)

pub returns : goal.returns
returns c = sym (c.loop-effect.invariant ∙ no_effects (λ e. e.now) (all_ops c.args.t.now.program.types) c.loop-effect.state c.args.effects.now c.loop-effect.effect-index c.loop-effect-test.false)

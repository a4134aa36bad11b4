use Rattle.std.proofs.Common.{◌∙◌, sym}
use Rattle.ql_eval.proofs.FoldSteps.{more_values, no_values, stuck_value}
use Rattle.ql_eval.proofs.folder.bound_values.Goals as goal

pub returns-in-None : goal.returns-in-None
returns-in-None c =
    sym (c.loop-bind.invariant ∙ stuck_value c.args.scope.now c.args.binds.now c.loop-bind.values.items c.loop-bind.bind-index c.bind-item.result c.loop-bind-test.true c.bind-item.is (sym c.in-None.is ∙ c.in_ok-value.ensures))

pub loop-bind-preserved : goal.loop-bind-preserved
loop-bind-preserved c =
    rw c.in_ok-push-in-Some.ensures.items (c.loop-bind.invariant ∙ more_values c.args.scope.now c.args.binds.now c.loop-bind.values.items c.loop-bind.bind-index c.bind-item.result c.in-Some.value c.loop-bind-test.true c.bind-item.is (sym c.in-Some.is ∙ c.in_ok-value.ensures))

pub returns : goal.returns
returns c = rw c.of.ensures (sym (c.loop-bind.invariant ∙ no_values c.args.scope.now c.args.binds.now c.loop-bind.values.items c.loop-bind.bind-index c.loop-bind-test.false))

use Rattle.std.proofs.Common.{◌∙◌, ap, arith, length}
use Rattle.ql_verify.proofs.Counting.{more_runs, run_grows}
use Rattle.ql_verify.proofs.runs.runs_of.Goals as goal

pub loop-effect-preserved : goal.loop-effect-preserved
loop-effect-preserved c = (
  c.loop-effect.invariant.0 ∙ more_runs c.args.d c.loop-effect.runs c.add_run.new.runs c.args.effects.now c.loop-effect.effect-index c.effect-item.result c.loop-effect-test.true c.effect-item.is c.in_ok-add_run.ensures.added,
  omega (arith, run_grows c.args.d c.loop-effect.runs c.effect-item.result.member, ap length c.in_ok-add_run.ensures.added, c.loop-effect.invariant.1),
)

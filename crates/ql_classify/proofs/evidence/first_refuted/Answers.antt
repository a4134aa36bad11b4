use Rattle.std.proofs.lemmas.Result.{err_from_is_err_and}
use Rattle.std.proofs.Common.{refl}
use Rattle.ql_classify.proofs.Climbing.{refuted_answer, satisfied_answer, satisfied_all}
use Rattle.ql_classify.proofs.evidence.first_refuted.Goals as goal

pub returns-in-Refuted : goal.returns-in-Refuted
returns-in-Refuted c =
    refuted_answer c.args.t.now.program c.args.goals.now c.loop-goal.lower.items c.loop-goal.goal-index _ _ c.in_ok-refutation.field-0 c.in-Refuted.refutation c.loop-goal-test.true c.loop-goal.invariant refl c.in_ok-refutation.ensures c.in-Refuted.is

pub loop-goal-preserved : goal.loop-goal-preserved
loop-goal-preserved c =
    satisfied_answer c.args.t.now.program c.args.goals.now c.loop-goal.lower.items c.push.new.self.items c.loop-goal.goal-index _ _ c.in_ok-refutation.field-0 c.in-Model.assignment c.loop-goal-test.true c.loop-goal.invariant refl c.in_ok-refutation.ensures c.in-Model.is c.in_ok-push-in-Model.ensures.items

pub returns : goal.returns
returns c =
    satisfied_all c.args.t.now.program c.args.goals.now c.loop-goal.lower.items c.pop.new.self.items c.loop-goal.goal-index c.pop.result c.unwrap.result c.loop-goal-test.false c.loop-goal.invariant c.pop.ensures.items c.unwrap.ensures

pub returns-in_err-push-in-Model : goal.returns-in_err-push-in-Model
returns-in_err-push-in-Model c = let p = err_from_is_err_and c.from_residual-in_err-push-in-Model.result c.from_residual-in_err-push-in-Model.ensures.1 in rw p.1 tt

pub returns-in_err-refutation : goal.returns-in_err-refutation
returns-in_err-refutation c = let p = err_from_is_err_and c.from_residual.result c.from_residual.ensures.1 in rw p.1 tt

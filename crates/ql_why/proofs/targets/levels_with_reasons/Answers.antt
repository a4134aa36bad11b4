use Rattle.std.proofs.Common.{◌≡◌, Some, length, slice_get, arith, ap, subst, ◌∙◌}
use Rattle.ql_classify.specs.Targets.{goals_at}
use Rattle.ql_commands.proofs.Headings.{length_goals}
use Rattle.ql_ground.specs.OfPrograms.{IsGoalOf}
use Rattle.ql_lang.specs.declared.program.Program.{Program}
use Rattle.ql_levels.specs.Lists.{LevelLists}
use Rattle.ql_typing.specs.Operations.{all_ops}
use Rattle.ql_why.specs.Why.{ReportsTarget}
use Rattle.ql_why.proofs.Turns.{turn_all, turn_more}
use Rattle.ql_why.proofs.targets.levels_with_reasons.Goals as goal

pub push_target-requires-clause-at : goal.push_target-requires-clause-at
push_target-requires-clause-at c = subst (λ (l : LevelLists). slice_get (goals_at l) c.loop-target.target ≡ Some c.goal_of-goal.result) c.levels-levels.ensures.same c.goal_of-goal.ensures.at

pub push_target-requires-clause-known : goal.push_target-requires-clause-known
push_target-requires-clause-known c = subst (λ (q : Program). IsGoalOf q c.goal_of-goal.result) c.typed-typed.ensures c.goal_of-goal.ensures.known

pub loop-target-preserved : goal.loop-target-preserved
loop-target-preserved c =
    let p = c.args.classified.now.program in
    let goals = goals_at c.args.classified.now.levels in
    let at = subst (λ (l : LevelLists). slice_get (goals_at l) c.loop-target.target ≡ Some c.goal_of-goal.result) c.levels-levels.ensures.same c.goal_of-goal.ensures.at in
    turn_more (ReportsTarget p) goals c.loop-target.target c.goal_of-goal.result c.loop-target.text.items c.push_target.new.out.items at c.loop-target.invariant c.in_ok-push_target.ensures

pub returns-clause-text : goal.returns-clause-text
returns-clause-text c =
    let p = c.args.classified.now.program in
    let levels = c.args.classified.now.levels in
    let count = length_goals levels in
    let ops : length levels.ops ≡ length (all_ops p.types) = c.levels-levels.ensures.ops in
    let txns : length levels.txns ≡ length p.txns = c.levels-levels.ensures.txns in
    let of_ops = c.ops.ensures.count ∙ ap (λ (q : Program). length (all_ops q.types)) c.typed-typed.ensures in
    let of_txns = c.txns.ensures.count ∙ ap (λ (q : Program). length q.txns) c.typed-typed.ensures in
    let past = c.loop-target-test.false in
    turn_all (ReportsTarget p) (goals_at levels) c.loop-target.target c.loop-target.text.items (omega (arith, count, ops, txns, of_ops, of_txns, past)) c.loop-target.invariant

use Rattle.std.proofs.Common.{subst, sym}
use Rattle.ql_ground.specs.OfPrograms.{IsGoalOf}
use Rattle.ql_explanation.proofs.Known.{goal_known}
use Rattle.ql_explain.proofs.json_target.target.Goals as goal

pub uses_of-requires-clause-goal : goal.uses_of-requires-clause-goal
uses_of-requires-clause-goal c = subst (IsGoalOf c.args.t.now.program) (sym c.goal_of-goal.ensures) (goal_known c.args.t.now.program c.args.finding.now c.requires.finding)

pub warnings-requires : goal.warnings-requires
warnings-requires c = subst (IsGoalOf c.args.t.now.program) (sym c.goal_of-goal.ensures) (goal_known c.args.t.now.program c.args.finding.now c.requires.finding)

pub target_value-requires-clause-goal : goal.target_value-requires-clause-goal
target_value-requires-clause-goal c = subst (IsGoalOf c.args.t.now.program) (sym c.goal_of-goal.ensures) (goal_known c.args.t.now.program c.args.finding.now c.requires.finding)

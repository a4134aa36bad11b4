use Rattle.std.proofs.Common.{subst, sym}
use Rattle.ql_ground.specs.OfPrograms.{IsGoalOf}
use Rattle.ql_warnings.specs.Warnings.{AreWarnings}
use Rattle.ql_explanation.specs.Explanation.{IsTargetSection}
use Rattle.ql_explanation.proofs.Known.{goal_known}
use Rattle.ql_explanation.proofs.Texts.{appended_ok}
use Rattle.ql_explanation.proofs.explanation.push_section.Goals as goal

pub uses_of-requires-clause-goal : goal.uses_of-requires-clause-goal
uses_of-requires-clause-goal c = subst (IsGoalOf c.args.t.now.program) (sym c.goal_of-goal.ensures) (goal_known c.args.t.now.program c.args.finding.now c.requires.finding)

pub section-requires-clause-known : goal.section-requires-clause-known
section-requires-clause-known c = subst (IsGoalOf c.args.t.now.program) (sym c.goal_of-goal.ensures) (goal_known c.args.t.now.program c.args.finding.now c.requires.finding)

pub warnings-requires : goal.warnings-requires
warnings-requires c = subst (IsGoalOf c.args.t.now.program) (sym c.goal_of-goal.ensures) (goal_known c.args.t.now.program c.args.finding.now c.requires.finding)

pub returns : goal.returns
returns c =
    appended_ok (IsTargetSection c.args.lexed.now c.args.t.now.program c.args.finding.now) c.args.text.now.items c.push_bytes.new.out.items c.deref-3.result.now c.push_bytes.result
    (subst (IsTargetSection c.args.lexed.now c.args.t.now.program c.args.finding.now) (sym c.deref-3.ensures.value)
    (c.in_ok-section.ensures c.args.lexed.now (subst (AreWarnings c.args.lexed.now c.args.t.now.program c.goal_of-goal.result) (sym c.deref-2.ensures.value) c.in_ok-warned.ensures)))
    c.push_bytes.ensures.ok

use Rattle.std.proofs.Common.{sym, subst}
use Rattle.ql_classify.specs.Targets.{goals_at}
use Rattle.ql_counter.specs.Countermodels.{IsSatisfiedBy}
use Rattle.ql_ground.specs.OfPrograms.{IsGoalOf}
use Rattle.ql_lang.specs.declared.program.Program.{Program}
use Rattle.ql_why.proofs.Lower.{lower_satisfied}
use Rattle.ql_why.proofs.targets.push_step.Goals as goal

pub push_countermodel-requires-clause-goal : goal.push_countermodel-requires-clause-goal
push_countermodel-requires-clause-goal c =
    subst (λ (q : Program). IsGoalOf q c.lower_goal.result) (sym c.typed.ensures) (c.lower_goal.ensures.known c.args.classified.now.program c.requires.known)

pub push_countermodel-requires-clause-satisfied : goal.push_countermodel-requires-clause-satisfied
push_countermodel-requires-clause-satisfied c =
    let p = c.args.classified.now.program in
    subst (λ (q : Program). IsSatisfiedBy q c.lower_goal.result c.in-Some.assignment.now) (sym c.typed.ensures)
    (lower_satisfied p (goals_at c.args.classified.now.levels) c.args.target c.args.step c.args.g c.lower_goal.result c.in-Some.assignment.now c.requires.at c.lower_goal.ensures.below c.in-Some.ensures)

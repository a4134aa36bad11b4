use Rattle.ql_counter.proofs.Programs.{goal_fails}
use Rattle.ql_counter.proofs.laws.satisfied_goals_fail.Goals as goal

pub returns : goal.returns
returns c = goal_fails

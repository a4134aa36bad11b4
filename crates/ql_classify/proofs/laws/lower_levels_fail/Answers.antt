use Rattle.ql_classify.proofs.Fails.{lower_fail, top_fails}
use Rattle.ql_classify.proofs.laws.lower_levels_fail.Goals as goal

pub returns-clause-lower : goal.returns-clause-lower
returns-clause-lower c = lower_fail

pub returns-clause-none : goal.returns-clause-none
returns-clause-none c = top_fails

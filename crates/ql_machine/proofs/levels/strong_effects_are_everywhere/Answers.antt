use Rattle.ql_machine.proofs.Runs.{kept}
use Rattle.ql_machine.proofs.levels.strong_effects_are_everywhere.Goals as goal

pub returns : goal.returns
returns c = λ rules n events replies last run a e at level r less. (kept rules n events replies last run).strong.applied a e (at, level) r less

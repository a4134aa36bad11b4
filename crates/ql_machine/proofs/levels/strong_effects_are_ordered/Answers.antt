use Rattle.ql_machine.proofs.Runs.{kept}
use Rattle.ql_machine.proofs.levels.strong_effects_are_ordered.Goals as goal

pub returns-clause-before : goal.returns-clause-before
returns-clause-before c = λ rules n events replies last run a b e at level less same. (kept rules n events replies last run).strong.sees a b e (at, level) less same

pub returns-clause-after : goal.returns-clause-after
returns-clause-after c = λ rules n events replies last run a b e at level less same. (kept rules n events replies last run).strong.seen a b e (at, level) less same

pub returns-clause-alone : goal.returns-clause-alone
returns-clause-alone c = λ rules n events replies last run a e at level. (kept rules n events replies last run).strong.alone a e (at, level)

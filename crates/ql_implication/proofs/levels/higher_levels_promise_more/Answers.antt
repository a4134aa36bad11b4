use Rattle.ql_implication.proofs.Promises.{causal_gives, monotonic_gives, repeatable_gives, strong_gives, wide_gives}
use Rattle.ql_implication.proofs.levels.higher_levels_promise_more.Goals as goal

pub returns-clause-strong : goal.returns-clause-strong
returns-clause-strong c = strong_gives

pub returns-clause-wide : goal.returns-clause-wide
returns-clause-wide c = wide_gives

pub returns-clause-causal : goal.returns-clause-causal
returns-clause-causal c = causal_gives

pub returns-clause-repeatable : goal.returns-clause-repeatable
returns-clause-repeatable c = repeatable_gives

pub returns-clause-monotonic : goal.returns-clause-monotonic
returns-clause-monotonic c = monotonic_gives

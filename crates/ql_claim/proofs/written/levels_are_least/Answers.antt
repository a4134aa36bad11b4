use Rattle.ql_claim.proofs.LeastWritten.{writes_least, writes_none}
use Rattle.ql_claim.proofs.written.levels_are_least.Goals as goal

pub returns-clause-levels : goal.returns-clause-levels
returns-clause-levels c = λ limits words held before after was is faults sums. writes_least limits words held before after was is faults sums c.reported_levels_are_least.ensures.yes

pub returns-clause-none : goal.returns-clause-none
returns-clause-none c = λ limits words held before after was is faults sums. writes_none limits words held before after was is faults sums c.reported_levels_are_least.ensures.no

use Rattle.ql_claim.proofs.Claims.{claimed}
use Rattle.ql_claim.proofs.law.headline.Goals as goal

pub returns : goal.returns
returns c = λ limits words held before after was is faults sums.
    claimed c.one_program_answer.ensures.tree c.least_levels_are_one.ensures c.strong_uses_are_reported.ensures.accepted limits words held before after was is faults sums
    (c.contracts_hold_in_runs.ensures limits words held before after was is faults sums)

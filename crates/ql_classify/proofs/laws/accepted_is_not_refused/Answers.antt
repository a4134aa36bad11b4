use Rattle.ql_classify.specs.Outcome.{all_tests}
use Rattle.ql_classify.proofs.OneOutcome.{one_outcome}
use Rattle.ql_classify.proofs.laws.accepted_is_not_refused.Goals as goal

pub returns : goal.returns
returns c p e h g = one_outcome p (all_tests p) e h g

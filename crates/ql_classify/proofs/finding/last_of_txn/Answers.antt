use Rattle.std.proofs.Common.{length, ap, ◌∙◌}
use Rattle.ql_classify.specs.Targets.{step_txn_level}
use Rattle.ql_classify.proofs.NextLower.{txn_last}
use Rattle.ql_classify.proofs.finding.last_of_txn.Goals as goal

pub returns : goal.returns
returns c = λ p level h.
    txn_last p c.args.d level c.txn_level_above.result c.args.lower.items c.pop.new.self.items c.pop.result c.in_ok-assignment.assignment h c.pop.ensures.items c.in_ok-assignment.was
    (c.txn_level_above.ensures ∙ ap (λ z. step_txn_level (length z)) c.deref.ensures.value)

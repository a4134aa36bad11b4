use Rattle.std.proofs.Common.{length, ap, ◌∙◌}
use Rattle.ql_classify.specs.Targets.{step_level}
use Rattle.ql_classify.proofs.NextLower.{op_last}
use Rattle.ql_classify.proofs.finding.last_of_op.Goals as goal

pub returns : goal.returns
returns c = λ p level h.
    op_last p c.args.o level c.level_above.result c.args.lower.items c.pop.new.self.items c.pop.result c.in_ok-assignment.assignment h c.pop.ensures.items c.in_ok-assignment.was
    (c.level_above.ensures ∙ ap (λ z. step_level (length z)) c.deref.ensures.value)

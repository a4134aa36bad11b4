use Rattle.std.proofs.Common.{◌∙◌, sym, ap}
use Rattle.std.specs.Ordering.{is_lt}
use Rattle.ql_value.specs.Order.{scalar_cmp}
use Rattle.ql_value.proofs.ReadSteps.{follows_last}
use Rattle.ql_value.proofs.reading.element_follows.Goals as goal

pub returns-in-Some : goal.returns-in-Some
returns-in-Some c = c.is_lt.ensures ∙ ap is_lt c.scalar_order.ensures ∙ sym (follows_last scalar_cmp c.args.elements.now c.in-Some.last.now c.args.element.now (rw c.in-Some.is at c.last.ensures.value))

use Rattle.std.proofs.Common.{◌∙◌, sym, ap}
use Rattle.std.specs.Ordering.{is_lt}
use Rattle.ql_value.specs.Order.{key_cmp}
use Rattle.ql_value.proofs.ReadSteps.{follows_last}
use Rattle.ql_value.proofs.reading.key_follows.Goals as goal

pub returns-in-Some : goal.returns-in-Some
returns-in-Some c = c.is_lt.ensures ∙ ap is_lt c.scalar_order.ensures ∙ sym (follows_last key_cmp c.args.entries.now c.in-Some.last.now (c.args.key.now, c.args.key.now) (rw c.in-Some.is at c.last.ensures.value))

use Rattle.std.proofs.Common.{sym, ◌∙◌, arith}
use Rattle.ql_value.specs.Order.{entry_cmp}
use Rattle.ql_value.proofs.Stepwise.{at_end}
use Rattle.ql_value.proofs.ordering.entries_order.Goals as goal

pub returns : goal.returns
returns c = c.cmp.ensures ∙ sym (c.loop-k.invariant ∙ at_end entry_cmp c.args.a.now c.args.b.now c.loop-k.k (omega arith))

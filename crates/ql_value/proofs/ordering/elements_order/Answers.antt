use Rattle.std.proofs.Common.{sym, ◌∙◌, arith}
use Rattle.ql_value.specs.Order.{scalar_cmp}
use Rattle.ql_value.proofs.Stepwise.{at_end}
use Rattle.ql_value.proofs.ordering.elements_order.Goals as goal

pub returns : goal.returns
returns c = c.cmp.ensures ∙ sym (c.loop-k.invariant ∙ at_end scalar_cmp c.args.a.now c.args.b.now c.loop-k.k (omega arith))

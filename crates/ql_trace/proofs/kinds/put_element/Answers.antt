use Rattle.std.proofs.Common.{sym, ◌∙◌}
use Rattle.ql_value.specs.Order.{scalar_cmp}
use Rattle.ql_value.proofs.ScalarOrder.{scalars_total}
use Rattle.ql_trace.proofs.Among.{ascends-put}
use Rattle.ql_trace.proofs.kinds.put_element.Goals as goal

pub returns-clause-ascends : goal.returns-clause-ascends
returns-clause-ascends c =
    let none = sym c.has_element.ensures ∙ c.if-has_element.false in
    λ _. rw (c.in_ok-insert.ensures.items, c.count_below-at.ensures.place, c.deref-2.ensures.value) (ascends-put scalar_cmp scalars_total c.args.element c.args.found.now.items c.requires.ascends (rw c.deref.ensures.value at none))

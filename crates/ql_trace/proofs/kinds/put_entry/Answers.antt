use Rattle.std.proofs.Common.{sym, ◌∙◌}
use Rattle.ql_value.specs.Order.{key_cmp}
use Rattle.ql_value.proofs.ScalarOrder.{keys_total}
use Rattle.ql_trace.proofs.Among.{ascends-put}
use Rattle.ql_trace.proofs.kinds.put_entry.Goals as goal

pub returns-clause-ascends : goal.returns-clause-ascends
returns-clause-ascends c =
    let none = sym c.has_key.ensures ∙ c.if-has_key.false in
    λ _. rw (c.in_ok-insert.ensures.items, c.count_keys_below-at.ensures.place, c.deref-2.ensures.value) (ascends-put key_cmp keys_total c.args.entry c.args.found.now.items c.requires.ascends (rw c.deref.ensures.value at none))

use Rattle.std.proofs.Common.{◌≡◌, [], ap, sym, subst, ◌∙◌}
use Rattle.ql_typing.specs.Resolved.{with_numbers}
use Rattle.ql_typing.proofs.Each.{next_item, no_item}
use Rattle.ql_typing.proofs.build.build_ids.Goals as goal

pub loop-name-preserved : goal.loop-name-preserved
unfolding with_numbers
loop-name-preserved c =
    let here = next_item c.args.names.now c.loop-name.name-index c.name-item.result c.loop-name-test.true c.name-item.is in
    rw (c.in_ok-insert.ensures.added, c.number_of.ensures)
    (subst (λ ns. with_numbers c.args.ops.now c.loop-name.ids ns ≡ with_numbers c.args.ops.now [] c.args.names.now) here c.loop-name.invariant)

pub returns : goal.returns
unfolding with_numbers
returns c =
    ap (λ ns. with_numbers c.args.ops.now c.loop-name.ids ns) (sym (no_item c.args.names.now c.loop-name.name-index c.loop-name-test.false)) ∙ c.loop-name.invariant

use Rattle.std.proofs.Common.{◌≡◌, ◌+◌, ap, arith, drop, length, map, sym, subst, ◌∙◌}
use Rattle.ql_base.specs.Numbering.{with_name}
use Rattle.ql_typing.specs.Faults.{names_met}
use Rattle.ql_typing.proofs.Mapped.{next_mapped, none_mapped}
use Rattle.ql_typing.proofs.Growing.{names_grow}
use Rattle.ql_typing.proofs.KeptNames.{kept-with_name}
use Rattle.ql_typing.proofs.build.number_each.Goals as goal

pub loop-item-preserved : goal.loop-item-preserved
unfolding names_met
loop-item-preserved g c =
    let here = next_mapped g.T.Named.named c.args.items.now c.loop-item.item-index c.item-item.result c.loop-item-test.true c.item-item.is in
    let met = subst (λ ns. names_met c.loop-item.ops ns ≡ names_met c.args.ops.now (map g.T.Named.named c.args.items.now)) here c.loop-item.invariant.met in
    rw (c.in_ok-put_in.ensures.names, c.name.ensures)
    (record { kept = kept-with_name c.args.ops.now c.loop-item.ops (g.T.Named.named c.item-item.result).word c.loop-item.invariant.kept; met = met })

pub returns-clause-numbered : goal.returns-clause-numbered
unfolding names_met
returns-clause-numbered g c =
    ap (λ ns. names_met c.loop-item.ops ns) (sym (none_mapped g.T.Named.named c.args.items.now c.loop-item.item-index c.loop-item-test.false)) ∙ c.loop-item.invariant.met

pub put_in-requires : goal.put_in-requires
unfolding names_met
put_in-requires g c =
    let here = next_mapped g.T.Named.named c.args.items.now c.loop-item.item-index c.item-item.result c.loop-item-test.true c.item-item.is in
    let met = subst (λ ns. names_met c.loop-item.ops ns ≡ names_met c.args.ops.now (map g.T.Named.named c.args.items.now)) here c.loop-item.invariant.met in
    let grown = names_grow (with_name c.loop-item.ops (g.T.Named.named c.item-item.result).word) (map g.T.Named.named (drop (c.loop-item.item-index + 1) c.args.items.now)) in
    rw c.name.ensures (omega (arith, grown, ap length met, c.requires))

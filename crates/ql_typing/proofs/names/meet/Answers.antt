use Rattle.std.proofs.Common.{subst, map}
use Rattle.ql_typing.specs.Invariant.{IsRest}
use Rattle.ql_typing.proofs.Mapped.{next_mapped, none_mapped}
use Rattle.ql_typing.proofs.MetNames.{rest_start, rest_step, rest_end}
use Rattle.ql_typing.proofs.names.meet.Goals as goal

pub loop-item-init : goal.loop-item-init
loop-item-init g c = rest_start c.args.names.now (map g.T.Named.named c.args.items.now)

pub loop-item-preserved : goal.loop-item-preserved
loop-item-preserved g c =
    let here = next_mapped g.T.Named.named c.args.items.now c.loop-item.item-index c.item-item.result c.loop-item-test.true c.item-item.is in
    rw (c.first-fault.ensures, c.in_ok-twice.ensures.names, c.in_ok-twice.ensures.fault, c.name.ensures)
    (rest_step c.args.names.now c.loop-item.names c.loop-item.fault (g.T.Named.named c.item-item.result) _ (map g.T.Named.named c.args.items.now)
    (subst (λ ns. IsRest c.args.names.now c.loop-item.names c.loop-item.fault ns (map g.T.Named.named c.args.items.now)) here c.loop-item.invariant))

pub returns-clause-names : goal.returns-clause-names
returns-clause-names g c = (rest_end c.args.names.now c.loop-item.names c.loop-item.fault (map g.T.Named.named c.args.items.now)
    (subst (λ ns. IsRest c.args.names.now c.loop-item.names c.loop-item.fault ns (map g.T.Named.named c.args.items.now)) (none_mapped g.T.Named.named c.args.items.now c.loop-item.item-index c.loop-item-test.false) c.loop-item.invariant)).0

pub returns-clause-fault : goal.returns-clause-fault
returns-clause-fault g c = (rest_end c.args.names.now c.loop-item.names c.loop-item.fault (map g.T.Named.named c.args.items.now)
    (subst (λ ns. IsRest c.args.names.now c.loop-item.names c.loop-item.fault ns (map g.T.Named.named c.args.items.now)) (none_mapped g.T.Named.named c.args.items.now c.loop-item.item-index c.loop-item-test.false) c.loop-item.invariant)).1

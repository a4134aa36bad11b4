use Rattle.std.proofs.Common.{[]}
use Rattle.ql_typing.specs.declared.scope.Known.{Known}
use Rattle.ql_typing.proofs.Mapped.{mapped_step, mapped_end}
use Rattle.ql_typing.proofs.scope.list_kinds.Goals as goal

pub loop-item-init : goal.loop-item-init
loop-item-init g c = c.in_ok-known.ensures.items

pub loop-item-preserved : goal.loop-item-preserved
loop-item-preserved g c =
    rw (c.in_ok-push.ensures.items, c.name.ensures, c.kind.ensures)
    (mapped_step {B = Known} (λ x. record { word = (g.T.Named.named x).word; kind = g.T.Kinded.kinded x }) c.args.items.now c.loop-item.item-index [] c.loop-item.known.items c.item-item.result c.loop-item-test.true c.item-item.is c.loop-item.invariant)

pub returns : goal.returns
returns g c =
    mapped_end {B = Known} (λ x. record { word = (g.T.Named.named x).word; kind = g.T.Kinded.kinded x }) c.args.items.now c.loop-item.item-index [] c.loop-item.known.items c.loop-item-test.false c.loop-item.invariant

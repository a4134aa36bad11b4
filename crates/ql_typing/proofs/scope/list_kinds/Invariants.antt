use Rattle.std.proofs.Common.{◌≡◌, map, take}
use Rattle.ql_typing.proofs.scope.list_kinds.Given as goal

abbrev pub invariant-loop-item : goal.invariant-loop-item
invariant-loop-item g l = l.known.items ≡ map (λ x. record { word = (g.T.Named.named x).word; kind = g.T.Kinded.kinded x }) (take l.item-index l.items)

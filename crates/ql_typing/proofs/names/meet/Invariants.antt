use Rattle.std.proofs.Common.{drop, map}
use Rattle.ql_typing.specs.Invariant.{IsRest}
use Rattle.ql_typing.proofs.names.meet.Given as goal

abbrev pub invariant-loop-item : goal.invariant-loop-item
invariant-loop-item g l = IsRest l.initial.names l.names l.fault (map g.T.Named.named (drop l.item-index l.items)) (map g.T.Named.named l.items)

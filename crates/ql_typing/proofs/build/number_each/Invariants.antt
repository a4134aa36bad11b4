use Rattle.std.proofs.Common.{drop, map}
use Rattle.ql_typing.specs.Faults.{names_met}
use Rattle.ql_typing.specs.Invariant.{IsRestMet}
use Rattle.ql_typing.proofs.build.number_each.Given as goal

abbrev pub invariant-loop-item : goal.invariant-loop-item
invariant-loop-item g l = IsRestMet names_met l.initial.ops l.ops (map g.T.Named.named (drop l.item-index l.items)) (map g.T.Named.named l.items)

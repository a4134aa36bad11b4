use Rattle.ql_typing.specs.Programs.{too_many}
use Rattle.ql_typing.specs.Invariant.{SoFar}
use Rattle.ql_typing.proofs.limits.extra_fault.Given as goal

abbrev pub invariant-loop-item : goal.invariant-loop-item
invariant-loop-item g l = SoFar (λ x. too_many (g.T.Named.placed x)) l.fault l.item-index l.items

use Rattle.ql_warnings.specs.Kept.{AreJoined}
use Rattle.ql_warnings.proofs.unbracketed.unbracketed.Given as goal

abbrev pub invariant-loop-k : goal.invariant-loop-k
invariant-loop-k l = AreJoined l.lexed l.extent.start l.extent.end l.tokens l.k l.found.items

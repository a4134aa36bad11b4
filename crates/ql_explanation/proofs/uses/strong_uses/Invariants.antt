use Rattle.ql_explanation.specs.Parts.{AreStrongBelow}
use Rattle.ql_explanation.proofs.uses.strong_uses.Given as goal

abbrev pub invariant-loop-o : goal.invariant-loop-o
invariant-loop-o l = AreStrongBelow l.t.program l.d.0 l.o l.uses.items

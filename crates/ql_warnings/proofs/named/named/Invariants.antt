use Rattle.ql_warnings.specs.Kept.{AreNameWarnings}
use Rattle.ql_warnings.proofs.named.named.Given as goal

abbrev pub invariant-loop-k : goal.invariant-loop-k
invariant-loop-k l = AreNameWarnings l.t.program l.vars l.k l.found.items

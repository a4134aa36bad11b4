use Rattle.std.proofs.Common.{length}
use Rattle.ql_slimming.proofs.Leaving.{IsKeeping}
use Rattle.ql_slimming.proofs.keeping.keep_stable.Given as goal

abbrev pub invariant-loop-o : goal.invariant-loop-o
invariant-loop-o l = IsKeeping l.t.program l.store.machine (length l.kinds) l.o l.kept

use Rattle.ql_shim.proofs.HolderLaws.{IsLeastTo}
use Rattle.ql_shim.proofs.shim.least_holder.Given as goal

abbrev pub invariant-loop-one : goal.invariant-loop-one
invariant-loop-one l = IsLeastTo l.running l.o l.one-index l.least

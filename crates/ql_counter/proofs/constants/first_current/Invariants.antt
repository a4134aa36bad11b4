use Rattle.ql_atoms.specs.Atoms.{size_of}
use Rattle.ql_counter.specs.Assigned.{current_by}
use Rattle.ql_counter.proofs.Loops.{NoneBelow}
use Rattle.ql_counter.proofs.constants.first_current.Given as goal

abbrev pub invariant-loop-i : goal.invariant-loop-i
invariant-loop-i l = NoneBelow l.i (current_by l.a (size_of l.s))

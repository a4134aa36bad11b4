use Rattle.ql_counter.specs.Coded.{needs, said}
use Rattle.ql_counter.proofs.Loops.{NoneBelow}
use Rattle.ql_counter.proofs.blocks.is_needed.Given as goal

abbrev pub invariant-loop-i : goal.invariant-loop-i
invariant-loop-i l = NoneBelow l.i (needs (said l.a l.s) l.part l.c)

use Rattle.ql_counter.specs.Coded.{alike_by, said}
use Rattle.ql_counter.proofs.Loops.{NoneBelow}
use Rattle.ql_counter.proofs.classes.class.Given as goal

abbrev pub invariant-loop-k : goal.invariant-loop-k
invariant-loop-k l = NoneBelow l.k (λ k. alike_by (said l.a l.s) l.likeness k l.c)

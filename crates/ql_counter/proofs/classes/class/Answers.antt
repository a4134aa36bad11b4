use Rattle.std.proofs.Common.{sym, ◌∙◌, arith}
use Rattle.ql_counter.specs.Coded.{alike_by, said}
use Rattle.ql_counter.proofs.Loops.{least-is}
use Rattle.ql_counter.proofs.classes.class.Goals as goal

pub returns-then-are_alike-clause-value : goal.returns-then-are_alike-clause-value
returns-then-are_alike-clause-value c =
    let less = c.loop-k-test.true in
    least-is c.args.s.constants c.loop-k.k (λ k. alike_by (said c.args.a.now c.args.s) c.args.likeness k c.args.c) (omega (arith, less)) (sym c.are_alike.ensures ∙ c.if-are_alike.true) c.loop-k.invariant

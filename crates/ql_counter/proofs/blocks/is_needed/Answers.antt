use Rattle.std.proofs.Common.{sym, ◌∙◌, arith}
use Rattle.ql_counter.specs.Coded.{needs, said}
use Rattle.ql_counter.proofs.Loops.{some-is, some-none}
use Rattle.ql_counter.proofs.blocks.is_needed.Goals as goal

pub returns-then-is_why : goal.returns-then-is_why
returns-then-is_why c =
    let less = c.loop-i-test.true in
    some-is c.args.s.constants c.loop-i.i (needs (said c.args.a.now c.args.s) c.args.part c.args.c) (omega (arith, less)) (sym c.is_why.ensures ∙ c.if-is_why.true)

pub returns : goal.returns
returns c =
    let less = c.loop-i-test.false in
    some-none c.args.s.constants c.loop-i.i (needs (said c.args.a.now c.args.s) c.args.part c.args.c) (omega (arith, less)) c.loop-i.invariant

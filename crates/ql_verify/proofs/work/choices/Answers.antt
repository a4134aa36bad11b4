use Rattle.std.proofs.Common.{◌+◌, arith}
use Rattle.ql_verify.proofs.Counting.{choices_bound, one_more_variable}
use Rattle.ql_verify.proofs.work.choices.Goals as goal

pub overflow_mul-product : goal.overflow_mul-product
overflow_mul-product c =
    let next = one_more_variable c.args.often c.args.effects c.loop-k._k c.loop-k.product c.loop-k.invariant in
    let few = choices_bound c.args.often c.args.effects (c.loop-k._k + 1) c.requires.some c.requires.few (omega (arith, c.loop-k-test.true, c.requires.vars)) in
    omega (arith, next, few)

pub loop-k-preserved : goal.loop-k-preserved
loop-k-preserved c = one_more_variable c.args.often c.args.effects c.loop-k._k c.loop-k.product c.loop-k.invariant

pub returns-clause-bounded : goal.returns-clause-bounded
returns-clause-bounded c =
    omega (arith, c.loop-k.invariant, choices_bound c.args.often c.args.effects c.loop-k._k c.requires.some c.requires.few (omega (arith, c.loop-k.auto._k-end, c.requires.vars)))

use Rattle.ql_refute.proofs.Marking.{falsify_more, only_set, has_variable_at}
use Rattle.ql_refute.proofs.marks.falsify.Goals as goal

pub loop-lit-preserved : goal.loop-lit-preserved
loop-lit-preserved c =
    rw (c.set.ensures, c.negated.ensures) (record {
      rest = falsify_more c.args.literals.now c.loop-lit.lit-index _ _ c.loop-lit.marks c.loop-lit-test.true (rw c.loop-lit.auto.marks (c.requires.in_range c.loop-lit.lit-index _ c.loop-lit-test.true)) c.loop-lit.invariant.rest;
      only = λ clear. only_set c.loop-lit.marks c.args.literals.now _ _ (has_variable_at c.args.literals.now c.loop-lit.lit-index _ c.loop-lit-test.true) (c.loop-lit.invariant.only clear);
    })

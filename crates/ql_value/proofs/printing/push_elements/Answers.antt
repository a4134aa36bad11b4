use Rattle.std.proofs.lemmas.List.{take_all}
use Rattle.ql_value.specs.Spelling.{scalar_text}
use Rattle.ql_value.specs.ValueGrammar.{IsScalar}
use Rattle.ql_value.proofs.Separated.{all_more, one_more}
use Rattle.ql_value.proofs.printing.push_elements.Goals as goal

pub loop-element-preserved : goal.loop-element-preserved
loop-element-preserved c = record {
  text = rw (c.in_ok-push_scalar.ensures.text, c.in_ok-push_bytes.ensures.ok, c.loop-element.invariant.text)
      (one_more scalar_text c.args.elements.now c.loop-element.element-index c.element-item.result c.args.out.now.items c.loop-element-test.true c.element-item.is);
  scalars = all_more IsScalar c.args.elements.now c.loop-element.element-index c.element-item.result c.loop-element-test.true c.element-item.is c.loop-element.invariant.scalars c.in_ok-push_scalar.ensures.scalar;
}

pub returns-clause-text : goal.returns-clause-text
returns-clause-text c = rw (take_all c.loop-element.element-index c.args.elements.now c.loop-element-test.false) at c.loop-element.invariant.text

pub returns-clause-scalars : goal.returns-clause-scalars
returns-clause-scalars c = rw (take_all c.loop-element.element-index c.args.elements.now c.loop-element-test.false) at c.loop-element.invariant.scalars

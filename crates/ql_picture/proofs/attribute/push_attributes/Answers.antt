use Rattle.ql_picture.specs.Attributes.{attribute_text}
use Rattle.ql_picture.proofs.Pieces.{one_more}
use Rattle.ql_picture.proofs.attribute.push_attributes.Goals as goal

pub loop-attribute-preserved : goal.loop-attribute-preserved
loop-attribute-preserved c = rw (c.in_ok-push_attribute.ensures, c.loop-attribute.invariant) (one_more attribute_text c.args.out.now.items c.args.attributes.now c.loop-attribute.attribute-index _ c.loop-attribute-test.true)

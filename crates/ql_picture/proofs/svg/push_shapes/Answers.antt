use Rattle.ql_picture.specs.Svg.{shape_text}
use Rattle.ql_picture.proofs.Pieces.{item_more}
use Rattle.ql_picture.proofs.svg.push_shapes.Goals as goal

pub loop-shape-preserved : goal.loop-shape-preserved
loop-shape-preserved c =
    rw (c.in_ok-push_shape.ensures, c.loop-shape.invariant) (item_more shape_text c.args.out.now.items c.args.shapes.now c.loop-shape.shape-index c.shape-item.result c.loop-shape-test.true c.shape-item.is)

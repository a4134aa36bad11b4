use Rattle.ql_picture.specs.Svg.{dot_text}
use Rattle.ql_picture.proofs.Pieces.{item_more}
use Rattle.ql_picture.proofs.svg.push_dots.Goals as goal

pub loop-dot-preserved : goal.loop-dot-preserved
loop-dot-preserved c =
    rw (c.in_ok-push_dot.ensures, c.loop-dot.invariant) (item_more dot_text c.args.out.now.items c.args.dots.now c.loop-dot.dot-index c.dot-item.result c.loop-dot-test.true c.dot-item.is)

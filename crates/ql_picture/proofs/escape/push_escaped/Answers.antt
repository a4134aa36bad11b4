use Rattle.ql_picture.specs.Escapes.{escaped}
use Rattle.ql_picture.proofs.Pieces.{one_more}
use Rattle.ql_picture.proofs.escape.push_escaped.Goals as goal

pub loop-b-preserved : goal.loop-b-preserved
loop-b-preserved c = rw (c.in_ok-push_byte.ensures, c.loop-b.invariant) (one_more escaped c.args.out.now.items c.args.text.now c.loop-b.b-index _ c.loop-b-test.true)

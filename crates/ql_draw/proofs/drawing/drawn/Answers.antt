use Rattle.ql_draw.proofs.Writing.{is_drawn}
use Rattle.ql_draw.proofs.drawing.drawn.Goals as goal

pub returns : goal.returns
returns c = is_drawn c.args.history.now c.in_ok-grid.grid c.in_ok-picture.picture c.svg_text.result (rw c.as_bytes.ensures.value at c.svg_text.ensures) c.in_ok-picture.ensures

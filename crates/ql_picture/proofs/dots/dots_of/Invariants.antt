use Rattle.std.proofs.Common.{◌≡◌, map, take}
use Rattle.ql_picture.specs.Dots.{dot_of, seen}
use Rattle.ql_picture.proofs.dots.dots_of.Given as goal

abbrev pub invariant-loop-seat : goal.invariant-loop-seat
invariant-loop-seat l = map seen l.dots.items ≡ map (dot_of l.grid) (take l.seat-index l.seats)

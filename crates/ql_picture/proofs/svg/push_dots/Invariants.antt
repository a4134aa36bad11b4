use Rattle.std.proofs.Common.{◌≡◌, ◌++◌, take}
use Rattle.std.specs.List.{flat_map}
use Rattle.ql_picture.specs.Svg.{dot_text}
use Rattle.ql_picture.proofs.svg.push_dots.Given as goal

abbrev pub invariant-loop-dot : goal.invariant-loop-dot
invariant-loop-dot l = l.out.items ≡ l.initial.out.items ++ flat_map dot_text (take l.dot-index l.dots)

use Rattle.std.proofs.Common.{◌≡◌, ◌++◌, take}
use Rattle.std.specs.List.{flat_map}
use Rattle.ql_picture.specs.Svg.{shape_text}
use Rattle.ql_picture.proofs.svg.push_shapes.Given as goal

abbrev pub invariant-loop-shape : goal.invariant-loop-shape
invariant-loop-shape l = l.out.items ≡ l.initial.out.items ++ flat_map shape_text (take l.shape-index l.shapes)

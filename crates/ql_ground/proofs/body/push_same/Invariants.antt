use Rattle.std.proofs.Common.{◌≡◌, ◌++◌, map, take}
use Rattle.ql_atoms.specs.Atoms.{size_of}
use Rattle.ql_ground.specs.Bodies.{constant_of}
use Rattle.ql_ground.specs.Parts.{same_literals}
use Rattle.ql_ground.proofs.body.push_same.Given as goal

abbrev pub invariant-loop-t : goal.invariant-loop-t
invariant-loop-t l = l.lits.items ≡ l.initial.lits.items ++ same_literals (size_of l.s) l.first (map (constant_of (size_of l.s)) (take l.t-index l.rest))

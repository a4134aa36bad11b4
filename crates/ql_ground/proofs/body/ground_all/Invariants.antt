use Rattle.std.proofs.Common.{◌≡◌, map, take}
use Rattle.ql_cnf.specs.Circuits.{circuit_of, Input}
use Rattle.ql_ground.specs.Bodies.{grouped}
use Rattle.ql_ground.proofs.body.ground_all.Given as goal

abbrev pub invariant-loop-lit : goal.invariant-loop-lit
invariant-loop-lit l = circuit_of l.all ≡ grouped (circuit_of l.initial.all) (map Input (take l.lit-index l.rest))

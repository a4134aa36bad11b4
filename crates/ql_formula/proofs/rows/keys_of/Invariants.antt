use Rattle.std.proofs.Common.{◌≡◌, map, take}
use Rattle.ql_formula.specs.Tables.{key_of}
use Rattle.ql_formula.proofs.rows.keys_of.Given as goal

abbrev pub invariant-loop-effect : goal.invariant-loop-effect
invariant-loop-effect l = l.keys.items ≡ map key_of (take l.effect-index l.effects)

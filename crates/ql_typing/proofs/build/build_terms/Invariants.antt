use Rattle.std.proofs.Common.{◌≡◌, map, take}
use Rattle.ql_typing.specs.Resolved.{term_of}
use Rattle.ql_typing.proofs.build.build_terms.Given as goal

abbrev pub invariant-loop-point : goal.invariant-loop-point
invariant-loop-point l = l.terms.items ≡ map (term_of l.vars) (take l.point-index l.points)

use Rattle.std.proofs.Common.{◌≡◌, map}
use Rattle.ql_counter.specs.Assigned.{constant_places}
use Rattle.ql_counter.specs.Coded.{said}
use Rattle.ql_counter.proofs.places.places.Given as goal

abbrev pub invariant-loop-c : goal.invariant-loop-c
invariant-loop-c l = map (λ id. id.0) l.ids.items ≡ constant_places (said l.a l.s) l.slots l.c

use Rattle.std.proofs.Common.{◌≡◌, take}
use Rattle.ql_counter.specs.Built.{places_from, sees}
use Rattle.ql_counter.specs.Coded.{said}
use Rattle.ql_counter.proofs.drafts.seen.Given as goal

abbrev pub invariant-loop-k : goal.invariant-loop-k
invariant-loop-k l = l.ids ≡ places_from 1 (λ u. sees (said l.a l.s) u l.t) (take l.k l.slots)

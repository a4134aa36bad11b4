use Rattle.std.proofs.Common.{ℕ, ◌<◌, get_or}
use Rattle.ql_holder.specs.Closed.{Has}
use Rattle.ql_ranges.specs.Ranges.{ids_of}
use Rattle.ql_replica.proofs.walking.first_outside.Given as goal

abbrev pub invariant-loop-id : goal.invariant-loop-id
invariant-loop-id l = (k : ℕ) → k < l.id-index → Has (ids_of l.set) (get_or l.ids k 0)

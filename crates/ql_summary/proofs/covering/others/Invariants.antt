use Rattle.std.proofs.Common.{◌≡◌, ℕ, filter, not, take}
use Rattle.ql_base.specs.IdLists.{has_id}
use Rattle.ql_summary.proofs.covering.others.Given as goal

abbrev pub invariant-loop-k : goal.invariant-loop-k
invariant-loop-k l = l.others ≡ filter (λ (a : ℕ). not (has_id l.ids a)) (take l.k l.seen)

use Rattle.std.proofs.Common.{◌≡◌, ◌<◌, ℕ, false, Some}
use Rattle.ql_base.specs.IdLists.{has_id}
use Rattle.ql_replica.specs.declared.waiting.Waiting.{Waiting}
use Rattle.slab.specs.Slab.{get}
use Rattle.ql_replica.proofs.settling.is_watched.Given as goal

abbrev pub invariant-loop-key : goal.invariant-loop-key
invariant-loop-key l = (k : ℕ) (w : Waiting) → k < l.key → get l.waiting k ≡ Some w → has_id l.pack w.watched ≡ false

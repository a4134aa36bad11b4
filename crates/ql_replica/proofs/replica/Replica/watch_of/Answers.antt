use Rattle.std.proofs.Common.{ℕ, List, Option, Some, None, IfSome, subst}
use Rattle.ql_base.specs.declared.ids.EffId.{EffId}
use Rattle.ql_exec.specs.declared.effect.Effect.{Effect}
use Rattle.ql_holder.specs.Closed.{Reaches}
use Rattle.ql_holder.specs.Needs.{Needs}
use Rattle.ql_ranges.specs.Ranges.{ids_of}
use Rattle.ql_replica.specs.Waiting.{FitsReplica, IsWatchIn, Kept, held_by}
use Rattle.ql_replica.proofs.ReceiptLaws.{watch-needed}
use Rattle.ql_replica.proofs.replica.Replica.watch_of.Goals as goal

needed : (s : Kept) (e : ℕ) (o : Option EffId) → IsWatchIn (held_by s.slots) e o
    → IfSome o (λ watched. (x : List Effect) → FitsReplica (ids_of s.received) (ids_of s.applied) (held_by s.slots) x → Reaches (Needs x) e watched.0)
needed s e None is = tt
needed s e (Some watched) is = λ x fits. watch-needed (held_by s.slots) e (Some watched) is x (ids_of s.received) (ids_of s.applied) fits

pub returns-clause-needed : goal.returns-clause-needed
returns-clause-needed c =
    needed c.args.self.now c.args.e.0 c.watch_in.result (subst (λ (s : Kept). IsWatchIn (held_by s.slots) c.args.e.0 c.watch_in.result) c.self.view_is c.watch_in.ensures)

-- The result of a receipt at one of several replicas.
use Rattle.std.specs.Prelude.{◌≡◌, ℕ, false, List}
use Rattle.ql_base.specs.IdLists.{has_id}
use Rattle.ql_exec.specs.declared.effect.Effect.{Effect}
use Rattle.ql_holder.specs.Closed.{Has}
use Rattle.ql_holder.specs.declared.arrival.Arrival.{Arrival}
use Rattle.ql_holder.specs.declared.arrival.Arrival.TheVariants.{Again, Waits, Applies}
use Rattle.ql_holder.specs.Arrivals.{Applied, IsGain, IsLeastMissing}
use Rattle.ql_machine.specs.declared.reply.Reply.{Reply}
use Rattle.ql_machine.specs.declared.reply.Reply.TheVariants as reply
use Rattle.ql_machine.specs.Changes.{received_by}
use Rattle.ql_machine.specs.State.{received_at}

-- a replica hadn't received these, and now has
pub record IsReceived (before : List (List ℕ)) (r : ℕ) (ids : List ℕ) (after : List (List ℕ)) : Type 0 where
  pub none_before : (a : ℕ) → Has ids a → has_id (received_at before r) a ≡ false
  pub added : after ≡ received_by before r ids

-- the result of a replica's receipt of a package, by what each replica had received before and has received after
abbrev pub IsReceipt : List Effect → List (List ℕ) → ℕ → List ℕ → List (List ℕ) → Arrival → Type 0
IsReceipt x before r ids after Again = ((a : ℕ) → Has ids a → Has (received_at before r) a) × (after ≡ before)
IsReceipt x before r ids after (Waits missing) = IsReceived before r ids after × IsLeastMissing x (received_at after r) ids missing.0
IsReceipt x before r ids after (Applies gain) =
    IsReceived before r ids after × ((a : ℕ) → Has ids a → Applied x (received_at after r) a)
    × IsGain x (received_at before r) (received_at after r) gain

-- the reply to a receipt
abbrev pub reply_of : Arrival → Reply
reply_of Again = reply.Again
reply_of (Waits missing) = reply.Waits missing
reply_of (Applies gain) = reply.Applies gain

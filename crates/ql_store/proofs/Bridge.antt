-- A replica judges with every transaction taken as committed: of sets of committed effects that is what the machine does.
use Rattle.std.proofs.Common.{◌↔◌, ℕ, List, inl, inr, refl}
use Rattle.ql_exec.specs.declared.effect.Effect.{Effect}
use Rattle.ql_holder.specs.Closed.{Closed, Has}
use Rattle.ql_holder.specs.Needs.{Needs}
use Rattle.ql_holder.proofs.ClosedLaws.{closed-along, reached-more}
use Rattle.ql_machine.specs.declared.open_txn.OpenTxn.{OpenTxn}
use Rattle.ql_machine.specs.State.{NeedsNow}
use Rattle.ql_machine.specs.Kept.{AreDone, IsDone}

-- what is needed now is needed where every transaction is committed
need-later : (x : List Effect) (o : List OpenTxn) (a b : ℕ) → NeedsNow x o a b → Needs x a b
need-later x o a b (inl step) = inl step
need-later x o a b (inr txn) = inr (refl, txn.1)

-- and of a committed effect the other way round
need-now : (x : List Effect) (o : List OpenTxn) (a b : ℕ) → IsDone x o a → Needs x a b → NeedsNow x o a b
need-now x o a b done (inl step) = inl step
need-now x o a b done (inr txn) = inr (done, txn.1)

pub closed-same : (x : List Effect) (o : List OpenTxn) (ids : List ℕ) → AreDone x o ids → (a : ℕ) → Closed (Needs x) (Has ids) a ↔ Closed (NeedsNow x o) (Has ids) a
closed-same x o ids done a = (
  λ closed b reached. closed b (reached-more (NeedsNow x o) (Needs x) (need-later x o) a b reached),
  λ closed. closed-along (NeedsNow x o) (Needs x) (Has ids) (λ b c is need. need-now x o b c (done b is) need) a closed,
)

-- What is known of an effect that a call makes, whatever its level: all that the laws need of the rules on calls.
use Rattle.std.proofs.Common.{◌≡◌, ◌⊎◌, ℕ, true, false, List, [], ◌∷◌, ◌++◌, Some, None}
use Rattle.ql_base.specs.IdLists.{has_id}
use Rattle.ql_base.specs.declared.ids.SessId.{SessId}
use Rattle.ql_exec.specs.declared.effect.Effect.{Effect}
use Rattle.ql_exec.specs.Effects.{effect_at}
use Rattle.ql_exec.specs.Execution.{IsExecution}
use Rattle.ql_exec.specs.Relations.{vis, sametxn, inside, hbo_step}
use Rattle.ql_levels.specs.declared.level.Level.TheVariants.{Causal, Wide, Strong}
use Rattle.ql_levels.specs.declared.level.TxnLevel.TheVariants.{Mav, Rr}
use Rattle.ql_holder.specs.Closed.{Has}
use Rattle.ql_machine.specs.declared.open_txn.OpenTxn.{OpenTxn}
use Rattle.ql_machine.specs.State.{open_of}
use Rattle.ql_machine.specs.Rules.{Promises}
use Rattle.ql_machine.specs.Blocking.{InPast}
use Rattle.ql_machine.specs.Changes.{member_of}
use Rattle.ql_machine.specs.Kept.{IsDone, IsOpen, IsStrong}

-- an effect of the execution on an object of the new one
pub record IsBeside (x : List Effect) (e : Effect) (a : ℕ) : Type 0 where
  pub effect : Effect
  pub at : effect_at x a ≡ Some effect
  pub on_object : effect.object.0 ≡ e.object.0

-- an effect of a strong operation
pub record IsAlone (x : List Effect) (o : List OpenTxn) (e : Effect) : Type 0 where
  pub none_open : open_of o e.session ≡ None
  pub free : (session : SessId) (t : OpenTxn) → IsOpen o session t → has_id t.objects e.object.0 ≡ false
  pub sees_all : (a : ℕ) → IsBeside x e a → Has e.seen a

-- an effect of an open transaction
pub record IsMadeIn (promises : Promises) (x : List Effect) (t : OpenTxn) (e : Effect) : Type 0 where
  pub declared : has_id t.objects e.object.0 ≡ true
  pub monotonic : promises.txn_level t.decl ≡ Mav → (a c d : ℕ) → inside x t.run.0 a ≡ true → vis x c a ≡ true → inside x t.run.0 c ≡ false
      → sametxn x c d ≡ true → IsBeside x e d → Has e.seen d
  pub taken : promises.txn_level t.decl ≡ Rr → (c : ℕ) → Has e.seen c → inside x t.run.0 c ≡ false → Has t.snapshot c
  pub shown : promises.txn_level t.decl ≡ Rr → (d : ℕ) → Has t.snapshot d → IsBeside x e d → Has e.seen d

pub record IsMade (promises : Promises) (x : List Effect) (o : List OpenTxn) (e : Effect) : Type 0 where
  pub grown : IsExecution (x ++ e ∷ [])
  pub joined : e.member ≡ member_of (open_of o e.session)
  -- what is one step before something seen is seen
  pub closed : (a b : ℕ) → Has e.seen b → hbo_step x a b ≡ true → Has e.seen a
  pub causal : promises.level e.op ≡ Causal → (a : ℕ) (f : Effect) → effect_at x a ≡ Some f → f.session.0 ≡ e.session.0 → f.object.0 ≡ e.object.0 → Has e.seen a
  pub wide : promises.level e.op ≡ Wide → (a : ℕ) → IsBeside x e a → InPast x e.session (Has e.seen) a → Has e.seen a
  -- what is seen is committed, or of the session's open transaction
  pub known : (a : ℕ) → Has e.seen a → IsDone x o a ⊎ ((t : OpenTxn) × IsOpen o e.session t × (inside x t.run.0 a ≡ true))
  -- of a committed transaction all on the object is seen, or nothing
  pub whole : (b c : ℕ) → Has e.seen b → IsDone x o b → sametxn x b c ≡ true → IsBeside x e c → Has e.seen c
  pub strong : (a : ℕ) (f : Effect) → IsStrong promises.level x a f → f.object.0 ≡ e.object.0 → Has e.seen a
  pub if_strong : promises.level e.op ≡ Strong → IsAlone x o e
  pub if_open : (t : OpenTxn) → IsOpen o e.session t → IsMadeIn promises x t e

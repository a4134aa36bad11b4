-- The invariant of every state of every run of the written machine, in parts. Each part is about those fields of the
-- state that it reads, so that a step that leaves these alone keeps it. No part depends on how calls are answered.
use Rattle.std.specs.Prelude.{◌≡◌, ◌⊎◌, ℕ, ◌<◌, ◌≤◌, true, false, ◌||◌, List, [], ◌∷◌, length, Some}
use Rattle.ql_base.specs.IdLists.{IsAscending, has_id}
use Rattle.ql_base.specs.declared.ids.DeclId.{DeclId}
use Rattle.ql_base.specs.declared.ids.OpId.{OpId}
use Rattle.ql_base.specs.declared.ids.SessId.{SessId}
use Rattle.ql_exec.specs.declared.effect.Effect.{Effect}
use Rattle.ql_exec.specs.declared.effect.Member.{Member}
use Rattle.ql_exec.specs.declared.effect.Member.TheVariants.{Alone, Inside}
use Rattle.ql_exec.specs.Effects.{effect_at, in_run}
use Rattle.ql_exec.specs.Execution.{IsExecution, is_declared_as}
use Rattle.ql_exec.specs.Relations.{so, vis, sameobj, sametxn, inside, hb, hbo_step}
use Rattle.ql_levels.specs.declared.level.Level.{Level}
use Rattle.ql_levels.specs.declared.level.Level.TheVariants.{Causal, Wide, Strong}
use Rattle.ql_levels.specs.declared.level.TxnLevel.{TxnLevel}
use Rattle.ql_levels.specs.declared.level.TxnLevel.TheVariants.{Mav, Rr}
use Rattle.ql_holder.specs.Closed.{Closed, Has}
use Rattle.ql_holder.specs.Needs.{IsPackage}
use Rattle.ql_machine.specs.declared.message.Message.{Message}
use Rattle.ql_machine.specs.declared.open_txn.OpenTxn.{OpenTxn}
use Rattle.ql_machine.specs.State.{Machine, NeedsNow, committed, open_of, received_at}
use Rattle.ql_machine.specs.Rules.{Promises}
use Rattle.ql_machine.specs.Changes.{is_sent}

-- ---- effects, transactions and messages

-- an effect is committed
abbrev pub IsDone : List Effect → List OpenTxn → ℕ → Type 0
IsDone x open_txns a = committed x open_txns a ≡ true

-- a session has this transaction open
abbrev pub IsOpen : List OpenTxn → SessId → OpenTxn → Type 0
IsOpen open_txns session t = open_of open_txns session ≡ Some t

-- something holds of what each message carries
abbrev pub EachCarries : (List ℕ → Type 0) → List Message → Type 0
EachCarries fits [] = Unit {0}
EachCarries fits (message ∷ messages) = fits message.carried × EachCarries fits messages

-- the number of a membership's transaction is no higher than this
abbrev pub IsNumbered : ℕ → Member → Type 0
IsNumbered begun Alone = Unit {0}
IsNumbered begun (Inside run decl) = run.0 ≤ begun

-- ---- the execution and its open transactions

-- an effect of a transaction that a session has open
pub record IsOwn (session : SessId) (t : OpenTxn) (e : Effect) : Type 0 where
  pub in_session : e.session.0 ≡ session.0
  pub under_name : is_declared_as t.decl e.member ≡ true
  pub declared_object : has_id t.objects e.object.0 ≡ true

pub record TxnsKept (x : List Effect) (open_txns : List OpenTxn) (begun : ℕ) : Type 0 where
  -- begun transactions are numbered in order
  pub numbered : (a : ℕ) (e : Effect) → effect_at x a ≡ Some e → IsNumbered begun e.member
  pub open_numbered : (session : SessId) (t : OpenTxn) → IsOpen open_txns session t → t.run.0 ≤ begun
  -- open ones are distinct
  pub distinct : (session other : SessId) (t u : OpenTxn) → IsOpen open_txns session t → IsOpen open_txns other u → t.run.0 ≡ u.run.0 → session.0 ≡ other.0
  -- the effects of an open one are its session's, under its name and on its objects
  pub own : (session : SessId) (t : OpenTxn) → IsOpen open_txns session t → (a : ℕ) (e : Effect) → effect_at x a ≡ Some e → in_run t.run.0 e.member ≡ true → IsOwn session t e
  -- and the last of their session
  pub last : (session : SessId) (t : OpenTxn) → IsOpen open_txns session t → (a b : ℕ) → inside x t.run.0 a ≡ true → so x a b ≡ true → inside x t.run.0 b ≡ true

pub record IsSound (level : OpId → Level) (x : List Effect) (open_txns : List OpenTxn) (begun : ℕ) : Type 0 where
  pub execution : IsExecution x
  -- what is one step before something seen is seen
  pub closed : (a b c : ℕ) → vis x b c ≡ true → hbo_step x a b ≡ true → vis x a c ≡ true
  -- an effect of a causal operation sees what is one step before it
  pub causal : (a c : ℕ) (e : Effect) → effect_at x c ≡ Some e → level e.op ≡ Causal → hbo_step x a c ≡ true → vis x a c ≡ true
  -- an effect of a wide operation sees what happened before it on its object, also by way of others
  pub wide : (a c : ℕ) (e : Effect) → effect_at x c ≡ Some e → level e.op ≡ Wide → hb x a c ≡ true → sameobj x a c ≡ true → vis x a c ≡ true
  pub txns : TxnsKept x open_txns begun

-- ---- what is committed

pub record History (x : List Effect) (open_txns : List OpenTxn) : Type 0 where
  -- a committed effect needs committed ones alone
  pub done : (a b : ℕ) → IsDone x open_txns a → NeedsNow x open_txns a b → IsDone x open_txns b
  -- an effect of an open transaction sees committed ones and own ones
  pub own : (session : SessId) (t : OpenTxn) → IsOpen open_txns session t → (a b : ℕ) → inside x t.run.0 a ≡ true → vis x b a ≡ true
      → IsDone x open_txns b ⊎ (inside x t.run.0 b ≡ true)

-- all of these are committed
abbrev pub AreDone : List Effect → List OpenTxn → List ℕ → Type 0
AreDone x open_txns ids = (a : ℕ) → Has ids a → IsDone x open_txns a

pub record IsStored (x : List Effect) (open_txns : List OpenTxn) (received : List (List ℕ)) (messages : List Message) : Type 0 where
  -- what was received and sent is committed
  pub held : (r : ℕ) → AreDone x open_txns (received_at received r)
  pub carried : EachCarries (AreDone x open_txns) messages
  -- a snapshot is of committed effects and has all that they need
  pub snapshot : (session : SessId) (t : OpenTxn) → IsOpen open_txns session t → AreDone x open_txns t.snapshot
  pub snapshot_closed : (session : SessId) (t : OpenTxn) → IsOpen open_txns session t → (a b : ℕ) → Has t.snapshot a → NeedsNow x open_txns a b → Has t.snapshot b

-- with each of these effects all of its transaction
abbrev pub AreWholeTxns : List Effect → List ℕ → Type 0
AreWholeTxns x ids = (a b : ℕ) → Has ids a → sametxn x a b ≡ true → Has ids b

-- all of one transaction, in ascending order
pub record IsParcel (x : List Effect) (ids : List ℕ) : Type 0 where
  pub ascending : IsAscending ids
  pub package_of : IsPackage x ids

-- transactions are received and sent whole, as ascending lists
pub record IsWhole (x : List Effect) (received : List (List ℕ)) (messages : List Message) : Type 0 where
  pub ascending : (r : ℕ) → IsAscending (received_at received r)
  pub held : (r : ℕ) → AreWholeTxns x (received_at received r)
  pub carried : EachCarries (IsParcel x) messages

-- each committed effect is received by each of the first replicas, or was sent to it
abbrev pub IsSpread : List Effect → List OpenTxn → List (List ℕ) → List Message → ℕ → Type 0
IsSpread x open_txns received messages start =
    (r a : ℕ) → r < start → IsDone x open_txns a → (has_id (received_at received r) a || is_sent messages r a) ≡ true

-- ---- strong operations

-- an effect is of a strong operation
abbrev pub IsStrong : (OpId → Level) → List Effect → ℕ → Effect → Type 0
IsStrong level x a e = (effect_at x a ≡ Some e) × (level e.op ≡ Strong)

pub record StrongKept (level : OpId → Level) (x : List Effect) (open_txns : List OpenTxn) (received : List (List ℕ)) : Type 0 where
  -- every replica has applied each strong effect
  pub applied : (a : ℕ) (e : Effect) → IsStrong level x a e → (r : ℕ) → r < length received → Closed (NeedsNow x open_txns) (Has (received_at received r)) a
  -- the snapshots of open transactions that declare its object have it
  pub snapshot : (a : ℕ) (e : Effect) → IsStrong level x a e → (session : SessId) (t : OpenTxn) → IsOpen open_txns session t → has_id t.objects e.object.0 ≡ true → Has t.snapshot a
  -- it is in no transaction
  pub alone : (a : ℕ) (e : Effect) → IsStrong level x a e → e.member ≡ Alone
  -- it sees all before it on its object, and all after it see it
  pub sees : (a b : ℕ) (e : Effect) → IsStrong level x a e → b < a → sameobj x b a ≡ true → vis x b a ≡ true
  pub seen : (a b : ℕ) (e : Effect) → IsStrong level x a e → a < b → sameobj x a b ≡ true → vis x a b ≡ true

-- ---- transactions

-- an effect is in a begun transaction, under a declared name
abbrev pub IsInTxn : List Effect → ℕ → Effect → ℕ → Type 0
IsInTxn x b e run = (effect_at x b ≡ Some e) × (in_run run e.member ≡ true)

pub record TxnsSee (txn_level : DeclId → TxnLevel) (x : List Effect) (open_txns : List OpenTxn) : Type 0 where
  -- whoever sees an effect of another transaction sees all of that transaction on its object
  pub whole : (a b c : ℕ) → vis x b a ≡ true → sametxn x a b ≡ false → sametxn x b c ≡ true → sameobj x b c ≡ true → vis x c a ≡ true
  -- at monotonic atomic view, what an earlier effect of the transaction saw of another one, a later one sees all of on its object
  pub monotonic : (run : ℕ) (decl : DeclId) → txn_level decl ≡ Mav → (a b c d : ℕ) (e : Effect) → IsInTxn x b e run → is_declared_as decl e.member ≡ true
      → inside x run a ≡ true → so x a b ≡ true → vis x c a ≡ true → inside x run c ≡ false → sametxn x c d ≡ true → sameobj x d b ≡ true → vis x d b ≡ true
  -- at repeatable read, what any effect of the transaction saw
  pub repeatable : (run : ℕ) (decl : DeclId) → txn_level decl ≡ Rr → (a b c d : ℕ) (e : Effect) → IsInTxn x b e run → is_declared_as decl e.member ≡ true
      → inside x run a ≡ true → vis x c a ≡ true → inside x run c ≡ false → sametxn x c d ≡ true → sameobj x d b ≡ true → vis x d b ≡ true
  -- what an open transaction at repeatable read sees of others is its snapshot's part on the object
  pub taken : (session : SessId) (t : OpenTxn) → IsOpen open_txns session t → txn_level t.decl ≡ Rr → (a c : ℕ) → inside x t.run.0 a ≡ true → vis x c a ≡ true → inside x t.run.0 c ≡ false → Has t.snapshot c
  pub shown : (session : SessId) (t : OpenTxn) → IsOpen open_txns session t → txn_level t.decl ≡ Rr → (a d : ℕ) → inside x t.run.0 a ≡ true → Has t.snapshot d → sameobj x d a ≡ true → vis x d a ≡ true

-- ---- all of it

pub record Keeps (promises : Promises) (start : ℕ) (s : Machine) : Type 0 where
  -- no replica of the start is lost
  pub replicas : start ≤ length s.received
  pub sound : IsSound promises.level s.effects s.open_txns s.begun
  pub history : History s.effects s.open_txns
  pub stored : IsStored s.effects s.open_txns s.received s.messages
  pub strong : StrongKept promises.level s.effects s.open_txns s.received
  pub txns : TxnsSee promises.txn_level s.effects s.open_txns
  pub spread : IsSpread s.effects s.open_txns s.received s.messages start
  pub whole : IsWhole s.effects s.received s.messages

-- How a call is answered. There is one rule for each reply, in their order: an earlier one decides, and a later one
-- requires that no earlier one applies. What a rule doesn't name stays as it was.
use Rattle.std.specs.Prelude.{◌≡◌, ◌≢◌, ℕ, ◌<◌, true, false, List, [], ◌∷◌, ◌++◌, Some, None}
use Rattle.ql_base.specs.IdLists.{has_id}
use Rattle.ql_base.specs.declared.ids.EffId.{EffId}
use Rattle.ql_base.specs.declared.ids.ObjId.{ObjId}
use Rattle.ql_base.specs.declared.ids.ReplicaId.{ReplicaId}
use Rattle.ql_base.specs.declared.ids.SessId.{SessId}
use Rattle.ql_exec.specs.Execution.{next_id}
use Rattle.ql_levels.specs.declared.level.Level.TheVariants.{Strong}
use Rattle.ql_machine.specs.declared.open_txn.OpenTxn.{OpenTxn}
use Rattle.ql_machine.specs.declared.reply.Reply.{Reply}
use Rattle.ql_machine.specs.declared.reply.Reply.TheVariants as reply
use Rattle.ql_machine.specs.declared.reply.Reply.TheVariants.{Blocked, Held, Refused, Unavailable}
use Rattle.ql_machine.specs.declared.reply.Why.TheVariants.{Undeclared, Unused}
use Rattle.ql_machine.specs.Sets.{AreThose, IsLeast}
use Rattle.ql_machine.specs.State.{Machine, committed, group_at, open_of, replicas}
use Rattle.ql_machine.specs.Rules.{Rules, Call}
use Rattle.ql_machine.specs.Views.{InView}
use Rattle.ql_machine.specs.Blocking.{IsMissing, NoneMissing}
use Rattle.ql_machine.specs.Changes.{effect_made, received_by, received_by_all, to_others}

-- ---- conditions

-- the session has this transaction open
abbrev pub HasOpen : Machine → SessId → OpenTxn → Type 0
HasOpen s session t = open_of s.open_txns session ≡ Some t

abbrev pub HasNoneOpen : Machine → SessId → Type 0
HasNoneOpen s session = open_of s.open_txns session ≡ None

-- a transaction that is open declares the object, and it uses the operation
abbrev pub IsAllowed : Rules → Machine → Call → Type 0
IsAllowed rules s c = (t : OpenTxn) → HasOpen s c.session t → (has_id t.objects c.object.0 ≡ true) × (rules.uses t.decl c.op ≡ true)

-- a replica is outside another's group
abbrev pub IsOutside : Machine → ReplicaId → ℕ → Type 0
IsOutside s r q = (q < replicas s) × (group_at s.groups q ≢ group_at s.groups r.0)

-- every replica is in a replica's group
abbrev pub IsConnected : Machine → ReplicaId → Type 0
IsConnected s r = (q : ℕ) → q < replicas s → group_at s.groups q ≡ group_at s.groups r.0

-- a session's open transaction declares an object
abbrev pub IsHeldBy : Machine → ObjId → ℕ → Type 0
IsHeldBy s object session = (t : OpenTxn) × HasOpen s (record { 0 = session }) t × (has_id t.objects object.0 ≡ true)

-- no open transaction declares an object
abbrev pub IsFree : Machine → ObjId → Type 0
IsFree s object = (session : SessId) (t : OpenTxn) → HasOpen s session t → has_id t.objects object.0 ≡ false

-- a call isn't refused, unavailable or held
pub record MayCall (rules : Rules) (s : Machine) (c : Call) : Type 0 where
  pub allowed : IsAllowed rules s c
  pub connected : rules.level c.op ≡ Strong → IsConnected s c.replica
  pub free : rules.level c.op ≡ Strong → IsFree s c.object

-- nor is it blocked: it is answered at an existing replica, and sees exactly its view
pub record MayAnswer (rules : Rules) (s : Machine) (c : Call) (seen : List ℕ) : Type 0 where
  pub may : MayCall rules s c
  pub none_missing : NoneMissing rules s c
  pub in_range : c.replica.0 < replicas s
  pub view : AreThose (InView rules s c) seen

-- ---- the state after a call is answered

-- outside a transaction and below strong: its replica receives the effect, and sends it to each other one
abbrev pub after_plain : Rules → Machine → Call → List ℕ → Machine
after_plain rules s c seen =
    record s {
      effects = s.effects ++ effect_made rules s c seen ∷ [];
      received = received_by s.received c.replica.0 ((next_id s.effects).0 ∷ []);
      messages = s.messages ++ to_others (replicas s) c.replica ((next_id s.effects).0 ∷ []);
    }

-- at strong: every replica receives all that is committed, and then the effect; nothing is sent
abbrev pub after_strong : Rules → Machine → Call → List ℕ → List ℕ → Machine
after_strong rules s c seen done =
    record s {
      effects = s.effects ++ effect_made rules s c seen ∷ [];
      received = received_by_all (received_by_all s.received done) ((next_id s.effects).0 ∷ []);
    }

-- in a transaction: the effect is one of its own, and no replica receives it
abbrev pub after_own : Rules → Machine → Call → List ℕ → Machine
after_own rules s c seen = record s { effects = s.effects ++ effect_made rules s c seen ∷ [] }

-- ---- the rules

pub data IsCall (rules : Rules) (s : Machine) (c : Call) : Machine → Reply → Type 0 where
  -- the open transaction doesn't declare the object
  undeclared : (t : OpenTxn) → HasOpen s c.session t → has_id t.objects c.object.0 ≡ false → IsCall rules s c s (Refused Undeclared)
  -- it declares the object, and doesn't use the operation
  unused : (t : OpenTxn) → HasOpen s c.session t → has_id t.objects c.object.0 ≡ true → rules.uses t.decl c.op ≡ false → IsCall rules s c s (Refused Unused)
  -- strong, and a replica is outside the group of the called one: the least of them is reported
  unavailable : (q : ReplicaId) → IsAllowed rules s c → rules.level c.op ≡ Strong → IsLeast (IsOutside s c.replica) q.0 → IsCall rules s c s (Unavailable q)
  -- strong, and an open transaction declares the object: the least session of them is reported
  held : (session : SessId) → IsAllowed rules s c → rules.level c.op ≡ Strong → IsConnected s c.replica → IsLeast (IsHeldBy s c.object) session.0 → IsCall rules s c s (Held session)
  -- something is missing: the least of it is reported
  blocked : (a : EffId) → MayCall rules s c → IsLeast (IsMissing rules s c) a.0 → IsCall rules s c s (Blocked a)
  -- answered outside a transaction, below strong
  makes : (seen : List ℕ) → MayAnswer rules s c seen → HasNoneOpen s c.session → rules.level c.op ≢ Strong
      → IsCall rules s c (after_plain rules s c seen) (reply.Ok (next_id s.effects))
  -- answered outside a transaction, at strong
  makes_strong : (seen done : List ℕ) → MayAnswer rules s c seen → HasNoneOpen s c.session → rules.level c.op ≡ Strong
      → AreThose (λ a. committed s.effects s.open_txns a ≡ true) done → IsCall rules s c (after_strong rules s c seen done) (reply.Ok (next_id s.effects))
  -- answered in a transaction
  makes_own : (t : OpenTxn) (seen : List ℕ) → MayAnswer rules s c seen → HasOpen s c.session t
      → IsCall rules s c (after_own rules s c seen) (reply.Ok (next_id s.effects))

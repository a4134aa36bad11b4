-- The state of the written machine: a store with several replicas, as a definition and not as code.
-- From Sivaramakrishnan, Kaki and Jagannathan, 'Declarative Programming over Eventually Consistent Data Stores' (PLDI
-- 2015), come effects that replicas pass to one another and levels by which a call is answered. The state, messages with
-- their copies, groups of replicas and all rules of the machine are ours.
use Rattle.std.specs.Prelude.{ℕ, zero, suc, Bool, true, false, not, nat_eq, List, [], length, replicate, slice_get, slice_index, slice_index_or, Option, Some, None}
use Rattle.std.specs.List.{find}
use Rattle.ql_base.specs.declared.ids.SessId.{SessId}
use Rattle.ql_exec.specs.declared.effect.Effect.{Effect}
use Rattle.ql_exec.specs.declared.effect.Member.{Member}
use Rattle.ql_exec.specs.declared.effect.Member.TheVariants.{Alone, Inside}
use Rattle.ql_exec.specs.Effects.{effect_at, one}
use Rattle.ql_holder.specs.Needs.{NeedsWhen}
use Rattle.ql_machine.specs.declared.message.Message.{Message}
use Rattle.ql_machine.specs.declared.open_txn.OpenTxn.{OpenTxn}

pub record Machine : Type 0 where
  -- the effects of all calls that were answered
  pub effects : List Effect
  -- what each replica has received, in ascending order: the effects of committed transactions and those outside any
  pub received : List (List ℕ)
  -- the group of each replica; messages pass within a group alone
  pub groups : List ℕ
  -- all messages that were ever sent, in order
  pub messages : List Message
  -- the open transactions, in the order in which they began
  pub open_txns : List OpenTxn
  -- how many transactions were begun
  pub begun : ℕ

-- the store with a number of replicas in one group, before anything happens
abbrev pub empty : ℕ → Machine
empty n = record { effects = []; received = replicate n []; groups = replicate n 0; messages = []; open_txns = []; begun = 0 }

-- how many replicas there are
abbrev pub replicas : Machine → ℕ
replicas s = length s.received

-- what a replica has received
abbrev pub received_at : List (List ℕ) → ℕ → List ℕ
received_at received r = slice_index_or received r []

-- the group of a replica
abbrev pub group_at : List ℕ → ℕ → ℕ
group_at groups r = slice_index groups r

-- the message with this number, counted from 1
abbrev pub message_at : List Message → ℕ → Option Message
message_at messages zero = None
message_at messages (suc k) = slice_get messages k

-- the transaction that a session has open
abbrev pub open_of : List OpenTxn → SessId → Option OpenTxn
open_of open_txns session = find (λ t. nat_eq t.session.0 session.0) open_txns

-- the begun transaction of this number is the one that is open
abbrev pub is_open_run : Option OpenTxn → ℕ → Bool
is_open_run None run = false
is_open_run (Some t) run = nat_eq t.run.0 run

-- a membership isn't in the transaction that is open
abbrev pub is_done : Option OpenTxn → Member → Bool
is_done now Alone = true
is_done now (Inside run decl) = not (is_open_run now run.0)

-- An effect is committed: it is outside any transaction, or its session doesn't have its transaction open.
abbrev pub committed : List Effect → List OpenTxn → ℕ → Bool
committed x open_txns a = one (λ e. is_done (open_of open_txns e.session) e.member) (effect_at x a)

-- What an effect needs: all that it sees, all that its session did before it on its object, and, where it is committed,
-- the other effects of its transaction.
abbrev pub NeedsNow : List Effect → List OpenTxn → ℕ → ℕ → Type 0
NeedsNow x open_txns = NeedsWhen (committed x open_txns) x

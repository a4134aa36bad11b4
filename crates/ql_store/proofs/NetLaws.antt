-- The steps that change the network alone.
use Rattle.std.proofs.Common.{◌≡◌, ◌∷◌, ◌++◌, [], true, ℕ, List, length, replicate, sym, subst}
use Rattle.ql_base.specs.IdLists.{has_id}
use Rattle.ql_base.specs.declared.ids.EffId.{EffId}
use Rattle.ql_base.specs.declared.ids.ReplicaId.{ReplicaId}
use Rattle.ql_exec.specs.Relations.{sametxn}
use Rattle.ql_machine.specs.Sets.{AreThose}
use Rattle.ql_machine.specs.State.{received_at}
use Rattle.ql_machine.specs.Changes.{message_of, next_message}
use Rattle.ql_base.specs.declared.ids.MsgId.{MsgId}
use Rattle.ql_exec.specs.declared.effect.Effect.{Effect}
use Rattle.ql_machine.specs.declared.event.Event.TheVariants as event
use Rattle.ql_shim.specs.Transactions.{Transactions}
use Rattle.ql_machine.specs.declared.reply.Reply.TheVariants as reply
use Rattle.ql_machine.specs.Rules.{Rules}
use Rattle.ql_machine.specs.Steps.{IsStep, heals, loses, repeats, resends, splits}
use Rattle.ql_net.specs.Network.{IsRepeated, IsSpent, Network}
use Rattle.ql_store.specs.State.{machine_of}

module _ (rules : Rules) (x : List Effect) (received : List (List ℕ)) (shim : Transactions) (net later : Network) where
  pub step-splits : (groups : List ℕ) → later ≡ record net { groups = groups }
      → IsStep rules (machine_of x received net shim) (event.Partition groups) (machine_of x received later shim) reply.Split
  step-splits groups is =
      subst (λ (k : Network). IsStep rules (machine_of x received net shim) (event.Partition groups) (machine_of x received k shim) reply.Split) (sym is) (splits groups)

  pub step-heals : length net.groups ≡ length received → later ≡ record net { groups = replicate (length net.groups) 0 }
      → IsStep rules (machine_of x received net shim) event.Heal (machine_of x received later shim) reply.Healed
  step-heals grouped is =
      subst (λ (k : Network). IsStep rules (machine_of x received net shim) event.Heal (machine_of x received k shim) reply.Healed) (sym is)
      (subst (λ (n : ℕ). IsStep rules (machine_of x received net shim) event.Heal (machine_of x received (record net { groups = replicate n 0 }) shim) reply.Healed) (sym grouped) heals)

  pub step-repeats : (m : MsgId) → IsRepeated net later m.0
      → IsStep rules (machine_of x received net shim) (event.Repeat m) (machine_of x received later shim) (reply.Sent m)
  step-repeats m is =
      subst (λ (k : Network). IsStep rules (machine_of x received net shim) (event.Repeat m) (machine_of x received k shim) (reply.Sent m)) (sym is.2) (repeats m is.0 is.1)

  pub step-loses : (m : MsgId) → IsSpent net later m.0
      → IsStep rules (machine_of x received net shim) (event.Lose m) (machine_of x received later shim) reply.Lost
  step-loses m is =
      subst (λ (k : Network). IsStep rules (machine_of x received net shim) (event.Lose m) (machine_of x received k shim) reply.Lost) (sym is.2) (loses m is.0 is.1)

  pub step-resends : (a : EffId) (sender receiver : ReplicaId) (ids : List ℕ) (m : MsgId) → has_id (received_at received sender.0) a.0 ≡ true → AreThose (λ b. sametxn x a.0 b ≡ true) ids
      → later ≡ record net { messages = net.messages ++ message_of sender receiver ids ∷ [] } → m ≡ next_message net.messages
      → IsStep rules (machine_of x received net shim) (event.Resend a sender receiver) (machine_of x received later shim) (reply.Sent m)
  step-resends a sender receiver ids m has those is number =
      subst (λ (k : Network). IsStep rules (machine_of x received net shim) (event.Resend a sender receiver) (machine_of x received k shim) (reply.Sent m)) (sym is)
      (subst (λ (n : MsgId). IsStep rules (machine_of x received net shim) (event.Resend a sender receiver) (machine_of x received (record net { messages = net.messages ++ message_of sender receiver ids ∷ [] }) shim) (reply.Sent n)) (sym number)
      (resends a sender receiver ids has those))

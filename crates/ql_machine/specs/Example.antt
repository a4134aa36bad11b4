-- A schedule with two replicas: a session writes twice at the first one. The second message reaches the other replica
-- first and waits; then the first message arrives, and both effects are applied.
use Rattle.std.specs.Prelude.{false, List, [], ◌∷◌}
use Rattle.ql_value.specs.declared.value.Value.TheVariants as value
use Rattle.ql_exec.specs.declared.effect.Payload.TheVariants.{Nothing}
use Rattle.ql_levels.specs.declared.level.Level.TheVariants.{Eventual}
use Rattle.ql_levels.specs.declared.level.TxnLevel.TheVariants.{Rc}
use Rattle.ql_machine.specs.declared.event.Event.{Event}
use Rattle.ql_machine.specs.declared.event.Event.TheVariants as event
use Rattle.ql_machine.specs.declared.event.Event.TheVariants.{Deliver}
use Rattle.ql_machine.specs.declared.reply.Reply.{Reply}
use Rattle.ql_machine.specs.declared.reply.Reply.TheVariants as reply
use Rattle.ql_machine.specs.declared.reply.Reply.TheVariants.{Applies, Waits}
use Rattle.ql_machine.specs.State.{Machine, empty}
use Rattle.ql_machine.specs.Rules.{Call, Rules}
use Rattle.ql_machine.specs.Calls.{after_plain}
use Rattle.ql_machine.specs.Deliveries.{after_receipt}
use Rattle.ql_machine.specs.Changes.{message_of}

-- every operation is eventual and returns nothing
abbrev pub rules : Rules
rules = record {
  promises = record { level = λ op. Eventual; txn_level = λ decl. Rc };
  uses = λ decl op. false;
  answer = λ op args seen. record { answer = value.Unit; payload = Nothing };
}

-- session 1 writes object 0 at replica 0
abbrev pub write : Call
write = record { session = record { 0 = 1 }; replica = record { 0 = 0 }; object = record { 0 = 0 }; op = record { 0 = 0 }; args = [] }

abbrev pub write_event : Event
write_event = event.Call write.session write.replica write.object write.op write.args

abbrev pub events : List Event
events = write_event ∷ write_event ∷ Deliver (record { 0 = 2 }) ∷ Deliver (record { 0 = 1 }) ∷ []

abbrev pub replies : List Reply
replies = reply.Ok (record { 0 = 1 }) ∷ reply.Ok (record { 0 = 2 }) ∷ Waits (record { 0 = 1 }) ∷ Applies (1 ∷ 2 ∷ []) ∷ []

-- the states in between
abbrev pub one_written : Machine
one_written = after_plain rules (empty 2) write []

abbrev pub both_written : Machine
both_written = after_plain rules one_written write (1 ∷ [])

abbrev pub one_waits : Machine
one_waits = after_receipt both_written 2 (message_of (record { 0 = 0 }) (record { 0 = 1 }) (2 ∷ []))

abbrev pub both_applied : Machine
both_applied = after_receipt one_waits 1 (message_of (record { 0 = 0 }) (record { 0 = 1 }) (1 ∷ []))

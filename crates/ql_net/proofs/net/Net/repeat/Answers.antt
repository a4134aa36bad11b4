use Rattle.std.proofs.Common.{◌+◌, List, ap, subst, arith}
use Rattle.std.specs.Option.{option_copied, option_map}
use Rattle.ql_machine.specs.declared.message.Message.{Message}
use Rattle.ql_net.specs.Network.{IsFound, Network, message_in, messages_in}
use Rattle.ql_net.specs.declared.sent.Sent.{Sent}
use Rattle.ql_net.proofs.SentLaws.{found-kept, message-kept, message-recounted}
use Rattle.ql_net.proofs.net.Net.repeat.Goals as goal

pub overflow_add-message : goal.overflow_add-message
overflow_add-message c =
    let items = c.self.inside.messages.items in
    let found = found-kept (messages_in items) c.args.m.0 c.in_flight.result
    (subst (λ (all : List Sent). IsFound (messages_in all) c.args.m.0 (option_map message_in (option_copied c.in_flight.result))) c.deref.ensures.value c.in_flight.ensures) c.if-is_none.ensures in
    let kept = ap (λ (m : Message). m.copies) (message-kept items c.args.m.0 found.0 c.index_mut-message.result.now found.1.0 c.index_mut-message.ensures.value) in
    let room = (rw (← c.self.view_is) at c.requires.room) found.0 found.1.0 in
    omega (arith, kept, room)

pub returns-clause-repeated : goal.returns-clause-repeated
returns-clause-repeated c =
    let items = c.self.inside.messages.items in
    let sent = c.index_mut-message.result.now in
    let found = found-kept (messages_in items) c.args.m.0 c.in_flight.result
    (subst (λ (all : List Sent). IsFound (messages_in all) c.args.m.0 (option_map message_in (option_copied c.in_flight.result))) c.deref.ensures.value c.in_flight.ensures) c.if-is_none.ensures in
    let kept = ap (λ (m : Message). m.copies + 1) (message-kept items c.args.m.0 found.0 sent found.1.0 c.index_mut-message.ensures.value) in
    rw (← c.self.view_is) (
      found.0,
      found.1,
      rw kept (ap (λ all. let net : Network = record { messages = all; groups = c.self.inside.groups.items } in net)
          (message-recounted items c.args.m.0 (sent.copies + 1) found.0 sent found.1.0 c.index_mut-message.ensures.value)),
    )

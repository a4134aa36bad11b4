use Rattle.std.proofs.Common.{◌∙◌, ◌-◌, ap, arith}
use Rattle.ql_machine.specs.State.{message_at}
use Rattle.ql_machine.specs.declared.message.Message.{Message}
use Rattle.ql_net.specs.Network.{Network}
use Rattle.ql_net.proofs.SentLaws.{message-kept, message-recounted}
use Rattle.ql_net.proofs.net.Net.spend.Goals as goal

pub overflow_sub-message : goal.overflow_sub-message
overflow_sub-message c =
    let message = c.requires.0 in
    let at = ap (λ (net : Network). message_at net.messages c.args.m.0) c.self.view_is ∙ c.requires.1.0 in
    let kept = ap (λ (m : Message). m.copies) (message-kept c.self.inside.messages.items c.args.m.0 message c.index_mut-message.result.now at c.index_mut-message.ensures.value) in
    let some = c.requires.1.1 in
    omega (arith, kept, some)

pub returns : goal.returns
returns c =
    let message = c.requires.0 in
    let sent = c.index_mut-message.result.now in
    let at = ap (λ (net : Network). message_at net.messages c.args.m.0) c.self.view_is ∙ c.requires.1.0 in
    let kept = ap (λ (m : Message). m.copies - 1) (message-kept c.self.inside.messages.items c.args.m.0 message sent at c.index_mut-message.ensures.value) in
    rw (← c.self.view_is) (
      message,
      (at, c.requires.1.1),
      rw kept (ap (λ all. let net : Network = record { messages = all; groups = c.self.inside.groups.items } in net)
          (message-recounted c.self.inside.messages.items c.args.m.0 (sent.copies - 1) message sent at c.index_mut-message.ensures.value)),
    )

use Rattle.std.proofs.Common.{sym, ap, ◌∙◌}
use Rattle.std.proofs.lemmas.List.{take-map}
use Rattle.ql_net.specs.Network.{Network, message_in, messages_in}
use Rattle.ql_net.proofs.net.Net.forget.Goals as goal

pub returns : goal.returns
returns c = rw (← c.self.view_is) (ap (λ all. let net : Network = record { messages = all; groups = c.self.inside.groups.items } in net)
    (ap messages_in c.truncate.ensures.items ∙ sym (take-map message_in c.args.n c.self.inside.messages.items)))

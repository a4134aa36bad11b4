use Rattle.std.proofs.Common.{◌∙◌, ap, sym}
use Rattle.ql_machine.specs.State.{message_at}
use Rattle.ql_net.specs.Network.{Network}
use Rattle.ql_net.proofs.SentLaws.{message-kept}
use Rattle.ql_net.proofs.net.Net.package.Goals as goal

pub returns : goal.returns
returns c = λ message at.
    let kept = message-kept c.self.inside.messages.items c.args.m.0 message c.index.result.now (ap (λ (net : Network). message_at net.messages c.args.m.0) c.self.view_is ∙ at) c.index.ensures in
    c.deref.ensures ∙ sym (ap (λ m. m.carried) kept)

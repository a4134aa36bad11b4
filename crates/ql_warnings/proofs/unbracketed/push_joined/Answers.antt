use Rattle.ql_warnings.proofs.Joining.{joined_pushed, joined_skipped}
use Rattle.ql_warnings.proofs.unbracketed.push_joined.Goals as goal

pub returns-in_ok-push-in-Some : goal.returns-in_ok-push-in-Some
returns-in_ok-push-in-Some c =
    joined_pushed c.args.source.now c.args.extent.start c.args.tokens.now c.args.k c.args.extent.end c.in-Some.place c.args.found.now.items _
    c.requires.lexed c.in-Some.ensures c.in_ok-push-in-Some.ensures.items

pub returns-in-None : goal.returns-in-None
returns-in-None c = joined_skipped c.args.source.now c.args.extent.start c.args.tokens.now c.args.k c.args.extent.end c.args.found.now.items c.in-None.ensures

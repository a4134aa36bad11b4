use Rattle.ql_warnings.proofs.Clashing.{name_pushed, name_skipped}
use Rattle.ql_warnings.proofs.named.push_named.Goals as goal

pub returns-in_ok-push-in-Some : goal.returns-in_ok-push-in-Some
returns-in_ok-push-in-Some c =
    name_pushed c.args.t.now.program c.args.vars.now c.args.k c.in-Some.op c.args.found.now.items _ c.in-Some.ensures c.in_ok-push-in-Some.ensures.items

pub returns-in-None : goal.returns-in-None
returns-in-None c = name_skipped c.args.t.now.program c.args.vars.now c.args.k c.args.found.now.items c.in-None.ensures

use Rattle.std.proofs.Common.{map}
use Rattle.ql_typing.proofs.KeptNames.{kept-names_met, kept_whole}
use Rattle.ql_typing.proofs.names.list_fault.Goals as goal

pub returns-clause-same : goal.returns-clause-same
returns-clause-same g c =
    rw (c.truncate.ensures, c.len-before.ensures, c.in_ok-repeated.ensures.names)
    (kept-names_met c.args.names.now c.args.names.now (map g.T.Named.named c.args.items.now) (kept_whole c.args.names.now))

use Rattle.std.proofs.Common.{arith}
use Rattle.ql_shim.proofs.LookupLaws.{absent-between}
use Rattle.ql_shim.proofs.lookup.is_between.Goals as goal

pub returns-then-is_after : goal.returns-then-is_after
returns-then-is_after c = λ is.
    absent-between c.args.ids.now c.args.at c.args.id c.requires (omega arith) (c.is_after.ensures c.if-is_after.true) (c.is_before.ensures is)

use Rattle.std.proofs.Common.{◌-◌, ◌<◌, length, arith}
use Rattle.ql_base.proofs.IdLemmas.{get_or-rises}
use Rattle.ql_ranges.proofs.Ends.{between-ends}
use Rattle.ql_ranges.proofs.ranges.Ranges.spans.Goals as goal

pub has_all-requires : goal.has_all-requires
has_all-requires c =
    let some : 0 < length c.args.ids.now = grind (arith, c.is_empty.ensures, c.if-is_empty.false) in
    get_or-rises c.args.ids.now 0 (length c.args.ids.now - 1) c.requires (omega (arith, some)) (omega (arith, some))

pub returns-else-is_empty-clause-each : goal.returns-else-is_empty-clause-each
returns-else-is_empty-clause-each c = λ is a has.
    let ends = between-ends c.args.ids.now a c.requires has in
    c.has_all.ensures.0 is a ends.0 ends.1

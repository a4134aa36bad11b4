use Rattle.std.proofs.Common.{ap, refl, arith}
use Rattle.ql_ranges.specs.declared.ranges.IdRange.{IdRange}
use Rattle.ql_ranges.proofs.Edits.{lowered-adds, kept-adds}
use Rattle.ql_ranges.proofs.ranges.widen.Goals as goal

pub returns-then-id-range : goal.returns-then-id-range
returns-then-id-range c =
    let xs = c.args.ranges.now.items in
    let here = ap (λ (r : IdRange). r.from) c.index-range.ensures in
    let near = c.requires.near c.index-range.result.now in
    lowered-adds xs c.args.at c.args.id c.index-range.result.now (record { from = c.args.id; to = c.index-range.result.now.to }) c.requires.apart c.requires.place c.requires.inside
    (omega arith) refl (ap (λ (r : IdRange). r.to) c.index-range.ensures)

pub returns-else-id-range-2 : goal.returns-else-id-range-2
returns-else-id-range-2 c =
    let here = ap (λ (r : IdRange). r.from) c.index-range.ensures in
    let there = ap (λ (r : IdRange). r.to) c.index-range.ensures in
    kept-adds c.args.ranges.now.items c.args.at c.args.id c.index-range.result.now c.requires.apart c.requires.place c.requires.inside (omega arith) (omega arith)

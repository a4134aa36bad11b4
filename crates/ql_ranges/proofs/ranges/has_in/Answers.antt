use Rattle.std.proofs.Common.{◌<◌, length, ap, sym, ◌∙◌, arith}
use Rattle.std.proofs.lemmas.Bool.{ltb-true, ltb-false}
use Rattle.ql_ranges.specs.declared.ranges.IdRange.{IdRange}
use Rattle.ql_ranges.proofs.RangeLemmas.{within, has-at, has-none}
use Rattle.ql_ranges.proofs.ranges.has_in.Goals as goal

pub returns-in-Some : goal.returns-in-Some
returns-in-Some c =
    let xs = c.args.ranges.now in
    let at = c.place_of.result in
    let place = c.place_of.ensures in
    let inside : at < length xs = ltb-true at (length xs) (sym c.in-Some.ensures.lookup.0) in
    c.covers.ensures
    ∙ ap (λ (r : IdRange). within r.from r.to c.args.id) c.in-Some.ensures.lookup.1
    ∙ sym (has-at xs at c.args.id c.in-Some.range.now c.requires inside place.before (place.behind at c.in-Some.range.now (omega arith) inside))

pub returns-in-None : goal.returns-in-None
returns-in-None c =
    let xs = c.args.ranges.now in
    let at = c.place_of.result in
    let outside = ltb-false at (length xs) (sym c.in-None.ensures.lookup.0) in
    sym (has-none xs c.args.id (λ k e h. c.place_of.ensures.before k e (omega (arith, h, outside))))

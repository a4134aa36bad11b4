use Rattle.std.proofs.Common.{◌<◌, length, sym, arith}
use Rattle.std.proofs.lemmas.Bool.{ltb-true, ltb-false}
use Rattle.ql_ranges.proofs.RangeLemmas.{has-none, range-at}
use Rattle.ql_ranges.proofs.ranges.range_with.Goals as goal

pub returns-in-Some : goal.returns-in-Some
returns-in-Some c =
    let xs = c.args.ranges.now in
    let at = c.place_of.result in
    let inside : at < length xs = ltb-true at (length xs) (sym c.in-Some.ensures.lookup.0) in
    range-at xs at c.args.id c.in-Some.range.now c.in-Some.range.now c.only_with.result c.requires inside c.place_of.ensures c.in-Some.ensures.lookup.1 c.only_with.ensures

pub returns-in-None : goal.returns-in-None
returns-in-None c =
    let outside = ltb-false c.place_of.result (length c.args.ranges.now) (sym c.in-None.ensures.lookup.0) in
    has-none c.args.ranges.now c.args.id (λ k e h. c.place_of.ensures.before k e (omega (arith, h, outside)))

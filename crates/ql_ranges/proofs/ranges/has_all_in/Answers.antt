use Rattle.std.proofs.Common.{◌<◌, ◌≤◌, length, subst, sym, ◌∙◌, arith}
use Rattle.std.proofs.lemmas.Bool.{false≢true, le-leb, leb-true, ltb-true, ltb-false}
use Rattle.ql_ranges.specs.declared.ranges.IdRange.{IdRange}
use Rattle.ql_ranges.proofs.RangeLemmas.{all-at, between-at, has-none}
use Rattle.ql_ranges.proofs.ranges.has_all_in.Goals as goal

pub returns-then-range-from : goal.returns-then-range-from
returns-then-range-from c =
    let xs = c.args.ranges.now in
    let at = c.place_of.result in
    let d = c.in-Some.range.now in
    let inside : at < length xs = ltb-true at (length xs) (sym c.in-Some.ensures.lookup.0) in
    let low = subst (λ (r : IdRange). r.from ≤ c.args.from) c.in-Some.ensures.lookup.1 c.if-range-from.true in (
      λ is. between-at xs at c.args.from c.args.to d c.requires.apart inside c.place_of.ensures low
          (subst (λ (r : IdRange). c.args.to ≤ r.to) c.in-Some.ensures.lookup.1 (leb-true c.args.to d.to is)),
      λ all. le-leb c.args.to d.to (subst (λ (r : IdRange). c.args.to ≤ r.to) (sym c.in-Some.ensures.lookup.1)
          (all-at xs at c.args.from c.args.to d c.requires.apart inside c.place_of.ensures c.requires.order all).1),
    )

pub returns-else-range-from : goal.returns-else-range-from
returns-else-range-from c =
    let xs = c.args.ranges.now in
    let at = c.place_of.result in
    let d = c.in-Some.range.now in
    let inside : at < length xs = ltb-true at (length xs) (sym c.in-Some.ensures.lookup.0) in (
      λ is. (let low = leb-true d.from c.args.from is in absurd (omega (arith, low, c.if-range-from.false))),
      λ all. (let low = subst (λ (r : IdRange). r.from ≤ c.args.from) (sym c.in-Some.ensures.lookup.1)
          (all-at xs at c.args.from c.args.to d c.requires.apart inside c.place_of.ensures c.requires.order all).0 in
          absurd (omega (arith, low, c.if-range-from.false))),
    )

pub returns-in-None : goal.returns-in-None
returns-in-None c =
    let xs = c.args.ranges.now in
    let outside = ltb-false c.place_of.result (length xs) (sym c.in-None.ensures.lookup.0) in (
      λ is. absurd (false≢true is),
      λ all. absurd (false≢true (sym (has-none xs c.args.from (λ k e h. c.place_of.ensures.before k e (omega (arith, h, outside)))) ∙ all c.args.from (omega arith) c.requires.order)),
    )

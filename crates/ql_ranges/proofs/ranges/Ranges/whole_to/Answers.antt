use Rattle.std.proofs.Common.{◌≡◌, Some, slice_get, List, ap, sym, subst, ◌∙◌}
use Rattle.ql_ranges.specs.declared.ranges.IdRange.{IdRange}
use Rattle.ql_ranges.specs.Ranges.{AreApart}
use Rattle.ql_ranges.proofs.RangeLemmas.{whole-ends, whole-first, whole-none}
use Rattle.ql_ranges.proofs.ranges.Ranges.whole_to.Goals as goal

pub returns-in-Some-clause-whole : goal.returns-in-Some-clause-whole
returns-in-Some-clause-whole c = λ id first last.
    let items : c.deref.result.now ≡ c.args.self.now = c.deref.ensures.value ∙ c.self.view_is in
    let here : slice_get c.args.self.now 0 ≡ Some c.in-Some.range.now = ap (λ (l : List IdRange). slice_get l 0) (sym items) ∙ sym c.in-Some.ensures.value in
    whole-first c.args.self.now c.in-Some.range.now id here c.if-range-le1.true first last

pub returns-in-Some-clause-ends : goal.returns-in-Some-clause-ends
returns-in-Some-clause-ends c =
    let items : c.deref.result.now ≡ c.args.self.now = c.deref.ensures.value ∙ c.self.view_is in
    let here : slice_get c.args.self.now 0 ≡ Some c.in-Some.range.now = ap (λ (l : List IdRange). slice_get l 0) (sym items) ∙ sym c.in-Some.ensures.value in
    whole-ends c.args.self.now c.in-Some.range.now (subst AreApart c.self.view_is c.self.invariant) here

pub returns-in-Some-2-clause-ends : goal.returns-in-Some-2-clause-ends
returns-in-Some-2-clause-ends c =
    let items : c.deref.result.now ≡ c.args.self.now = c.deref.ensures.value ∙ c.self.view_is in
    let here : slice_get c.args.self.now 0 ≡ Some c.in-Some.range.now = ap (λ (l : List IdRange). slice_get l 0) (sym items) ∙ sym c.in-Some.ensures.value in
    whole-none c.args.self.now c.in-Some.range.now (subst AreApart c.self.view_is c.self.invariant) here c.if-range-le1.false

use Rattle.std.proofs.Common.{sym, ◌∙◌, ap, arith, length}
use Rattle.std.proofs.lemmas.List.{nil_from_length}
use Rattle.std.specs.Option.{option_map}
use Rattle.std.specs.Vec.Iter.{into_iter_items}
use Rattle.ql_value.specs.Order.{scalar_cmp}
use Rattle.ql_value.specs.declared.value.Value.TheVariants as value
use Rattle.ql_trace.specs.Kinds.{all_among}
use Rattle.ql_trace.proofs.Among.{among-more, among-none, among-twice, is_new, isn't_new, length-put}
use Rattle.ql_trace.proofs.kinds.set_of.Goals as goal

pub returns-then-not-branch : goal.returns-then-not-branch
returns-then-not-branch c =
    let there = isn't_new _ _ c.in_ok-put_element.ensures.new c.if-not-branch.true in
    sym (ap (option_map value.Set)
    (c.loop-element.invariant.2 ∙ ap (all_among scalar_cmp c.loop-element.found.items) c.in-Some.ensures.steps.0 ∙ among-twice scalar_cmp c.loop-element.found.items (into_iter_items c.next.new.self) c.in-Some.element there))

pub loop-element-preserved : goal.loop-element-preserved
loop-element-preserved c =
    let new = is_new _ _ c.in_ok-put_element.ensures.new c.if-not-branch.false in
    let found = c.loop-element.found.items in
    let put = c.in_ok-put_element.ensures.put c.if-not-branch.false in
    let same = c.loop-element.invariant.2 ∙ ap (all_among scalar_cmp found) c.in-Some.ensures.steps.0 ∙ among-more scalar_cmp found (into_iter_items c.next.new.self) c.in-Some.element new in
    let few = c.loop-element.invariant.3 in
    let count = ap length c.in-Some.ensures.steps.0 in
    let one = c.in-Some.ensures.steps.1 in
    let was = c.loop-element.invariant.4 in
    let longer = length-put scalar_cmp found c.in-Some.element in
    let more = ap length put in
    (tt, tt, same ∙ ap (λ xs. all_among scalar_cmp xs (into_iter_items c.next.new.self)) (sym put), omega (arith, few, count, longer, more), omega (arith, count, one, was), c.in_ok-put_element.ensures.ascends c.if-not-branch.false)

pub returns : goal.returns
returns c =
    let none = nil_from_length (into_iter_items c.loop-element.element-iterator) (sym c.loop-element.invariant.4 ∙ c.in-None.ensures.steps.0) in
    rw c.of.ensures (sym (ap (option_map value.Set) (c.loop-element.invariant.2 ∙ ap (all_among scalar_cmp c.loop-element.found.items) none ∙ among-none scalar_cmp c.loop-element.found.items)))

use Rattle.std.proofs.Common.{sym, ◌∙◌, ap, arith, length}
use Rattle.std.proofs.lemmas.List.{nil_from_length}
use Rattle.std.specs.Option.{option_map}
use Rattle.std.specs.Vec.Iter.{into_iter_items}
use Rattle.ql_value.specs.Order.{key_cmp}
use Rattle.ql_value.specs.declared.value.Value.TheVariants as value
use Rattle.ql_trace.specs.Kinds.{all_among}
use Rattle.ql_trace.proofs.Among.{among-more, among-none, among-twice, is_new, isn't_new, length-put}
use Rattle.ql_trace.proofs.kinds.map_of.Goals as goal

pub returns-then-not-branch : goal.returns-then-not-branch
returns-then-not-branch c =
    let there = isn't_new _ _ c.in_ok-put_entry.ensures.new c.if-not-branch.true in
    sym (ap (option_map value.Map)
    (c.loop-entry.invariant.2 ∙ ap (all_among key_cmp c.loop-entry.found.items) c.in-Some.ensures.steps.0 ∙ among-twice key_cmp c.loop-entry.found.items (into_iter_items c.next.new.self) c.in-Some.entry there))

pub loop-entry-preserved : goal.loop-entry-preserved
loop-entry-preserved c =
    let new = is_new _ _ c.in_ok-put_entry.ensures.new c.if-not-branch.false in
    let found = c.loop-entry.found.items in
    let put = c.in_ok-put_entry.ensures.put c.if-not-branch.false in
    let same = c.loop-entry.invariant.2 ∙ ap (all_among key_cmp found) c.in-Some.ensures.steps.0 ∙ among-more key_cmp found (into_iter_items c.next.new.self) c.in-Some.entry new in
    let few = c.loop-entry.invariant.3 in
    let count = ap length c.in-Some.ensures.steps.0 in
    let one = c.in-Some.ensures.steps.1 in
    let was = c.loop-entry.invariant.4 in
    let longer = length-put key_cmp found c.in-Some.entry in
    let more = ap length put in
    (tt, tt, same ∙ ap (λ xs. all_among key_cmp xs (into_iter_items c.next.new.self)) (sym put), omega (arith, few, count, longer, more), omega (arith, count, one, was), c.in_ok-put_entry.ensures.ascends c.if-not-branch.false)

pub returns : goal.returns
returns c =
    let none = nil_from_length (into_iter_items c.loop-entry.entry-iterator) (sym c.loop-entry.invariant.4 ∙ c.in-None.ensures.steps.0) in
    rw c.of.ensures (sym (ap (option_map value.Map) (c.loop-entry.invariant.2 ∙ ap (all_among key_cmp c.loop-entry.found.items) none ∙ among-none key_cmp c.loop-entry.found.items)))

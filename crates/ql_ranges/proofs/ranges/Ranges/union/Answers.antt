use Rattle.std.proofs.Common.{◌||◌, List, ℕ, ap, sym, subst, ◌∙◌}
use Rattle.ql_base.specs.IdLists.{IsAscending, has_id, union_of}
use Rattle.ql_base.proofs.IdLemmas.{IsAscending-union}
use Rattle.ql_holder.proofs.IdSets.{has_id-union, same_ids}
use Rattle.ql_ranges.specs.Ranges.{ids_of}
use Rattle.ql_ranges.specs.declared.ranges.IdRange.{IdRange}
use Rattle.ql_ranges.proofs.RangeLemmas.{ascending_ids}
use Rattle.ql_ranges.proofs.ranges.Ranges.union.Goals as goal

pub insert_each-requires : goal.insert_each-requires
insert_each-requires c = subst (λ (rs : List IdRange). IsAscending (ids_of rs)) (sym c.in_ok-both.ensures.same) (ascending_ids _ c.in_ok-both.ensures.apart)

pub returns-clause-united : goal.returns-clause-united
returns-clause-united c =
    let before = ids_of c.args.self.now in
    let after = ids_of c.insert_each.new.set in
    let has = λ (a : ℕ). c.in_ok-insert_each.ensures.added a
    ∙ ap (λ (rs : List IdRange). has_id (ids_of rs) a || has_id c.items.result.now a) c.in_ok-both.ensures.same
    ∙ ap (λ (l : List ℕ). has_id before a || has_id l a) c.items.ensures.same
    ∙ sym (has_id-union before c.args.ids.now a) in
    same_ids after (union_of before c.args.ids.now) c.insert_each.ensures.ascending (IsAscending-union before c.args.ids.now c.items.ensures.ascending)
    (λ a is. sym (has a) ∙ is) (λ a is. has a ∙ is)

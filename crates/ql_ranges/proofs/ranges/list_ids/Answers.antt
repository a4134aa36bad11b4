use Rattle.std.proofs.Common.{◌≡◌, ◌||◌, ℕ, Bool, List, get_or, take, ap, sym, ◌∙◌, arith}
use Rattle.std.proofs.lemmas.List.{take_all}
use Rattle.ql_base.specs.IdLists.{has_id}
use Rattle.ql_holder.proofs.IdSets.{same_ids}
use Rattle.ql_ranges.specs.Ranges.{ids_of}
use Rattle.ql_ranges.specs.declared.ranges.IdRange.{IdRange}
use Rattle.ql_ranges.proofs.RangeLemmas.{within, has_id-take_range, none_empty, ascending_ids}
use Rattle.ql_ranges.proofs.ranges.list_ids.Goals as goal

pub push_range-requires : goal.push_range-requires
push_range-requires c = record {
  ascending = c.loop-range.invariant.ascending;
  some = none_empty c.args.ranges.now c.loop-range.range-index (record { from = 0; to = 0 }) c.requires (omega arith);
}

pub loop-range-preserved : goal.loop-range-preserved
loop-range-preserved c =
    let xs = c.args.ranges.now in
    let k = c.loop-range.range-index in
    let range : IdRange = get_or xs k (record { from = 0; to = 0 }) in
    record {
      ascending = c.push_range.ensures.ascending;
      has = λ a. c.in_ok-push_range.ensures.added a
          ∙ ap (λ (b : Bool). b || within range.from range.to a) (c.loop-range.invariant.has a)
          ∙ sym (has_id-take_range xs k a (record { from = 0; to = 0 }) (omega arith));
    }

pub returns : goal.returns
returns c =
    let xs = c.args.ranges.now in
    let whole : take c.loop-range.range-index xs ≡ xs = take_all c.loop-range.range-index xs (omega arith) in
    let has = λ (a : ℕ). c.loop-range.invariant.has a ∙ ap (λ (l : List IdRange). has_id (ids_of l) a) whole in
    same_ids c.loop-range.ids (ids_of xs) c.loop-range.invariant.ascending (ascending_ids xs c.requires) (λ a is. sym (has a) ∙ is) (λ a is. has a ∙ is)

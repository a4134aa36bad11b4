use Rattle.std.proofs.Common.{◌≡◌, ◌+◌, ◌<◌, ◌||◌, ℕ, Bool, true, false, List, length, nat_eq, get_or, take, ap, sym, subst, refl, ◌∙◌, arith}
use Rattle.ql_base.specs.IdLists.{IsAscending, has_id, with_id}
use Rattle.ql_base.proofs.IdLemmas.{IsAscending-with_id}
use Rattle.ql_holder.proofs.IdSets.{has_id-with}
use Rattle.ql_ranges.specs.Ranges.{ids_of}
use Rattle.ql_holder.proofs.Members.{has_id-take}
use Rattle.ql_ranges.proofs.ranges.insert_each.Goals as goal

or_swap : (p q r : Bool) → (p || (q || r)) ≡ (q || (p || r))
or_swap true true r = refl
or_swap true false r = refl
or_swap false q r = refl

one_more : (before now next ids : List ℕ) (k a : ℕ) → k < length ids → has_id now a ≡ (has_id before a || has_id (take k ids) a) → next ≡ with_id now (get_or ids k 0)
    → has_id next a ≡ (has_id before a || has_id (take (k + 1) ids) a)
one_more before now next ids k a inside has is =
    ap (λ (l : List ℕ). has_id l a) is ∙ has_id-with now (get_or ids k 0) a
    ∙ ap (λ (b : Bool). nat_eq (get_or ids k 0) a || b) has
    ∙ or_swap (nat_eq (get_or ids k 0) a) (has_id before a) (has_id (take k ids) a)
    ∙ ap (λ (b : Bool). has_id before a || b) (sym (has_id-take ids k a inside))

pub loop-id-preserved : goal.loop-id-preserved
loop-id-preserved c = record {
  ascending = subst IsAscending (sym c.in_ok-insert.ensures.added) (IsAscending-with_id _ _ c.loop-id.invariant.ascending);
  has = λ a. one_more (ids_of c.args.set.now) (ids_of c.loop-id.set) (ids_of c.insert.new.self) c.args.ids.now c.loop-id.id-index a (omega arith) (c.loop-id.invariant.has a) c.in_ok-insert.ensures.added;
}

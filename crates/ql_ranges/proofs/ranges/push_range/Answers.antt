use Rattle.std.proofs.Common.{◌≡◌, ◌+◌, ◌≤◌, ◌&&◌, ◌||◌, ℕ, Bool, true, false, List, nat_eq, nat_le, nat_lt, ap, sym, subst, refl, ◌∙◌, arith}
use Rattle.ql_base.specs.IdLists.{IsAscending, has_id, with_id}
use Rattle.ql_base.proofs.IdLemmas.{IsAscending-with_id}
use Rattle.ql_holder.proofs.IdSets.{has_id-with}
use Rattle.ql_ranges.proofs.RangeLemmas.{within-more, within-end}
use Rattle.ql_ranges.proofs.ranges.push_range.Goals as goal

or_swap : (p q r : Bool) → (p || (q || r)) ≡ (q || (p || r))
or_swap true true r = refl
or_swap true false r = refl
or_swap false q r = refl

one_more : (before now next : List ℕ) (from id a : ℕ) → from ≤ id → has_id now a ≡ (has_id before a || (nat_le from a && nat_lt a id)) → next ≡ with_id now id
    → has_id next a ≡ (has_id before a || (nat_le from a && nat_lt a (id + 1)))
one_more before now next from id a low has is =
    ap (λ (l : List ℕ). has_id l a) is ∙ has_id-with now id a
    ∙ ap (λ (b : Bool). nat_eq id a || b) has
    ∙ or_swap (nat_eq id a) (has_id before a) (nat_le from a && nat_lt a id)
    ∙ ap (λ (b : Bool). has_id before a || b) (sym (within-more from id a low))

pub loop-id-preserved : goal.loop-id-preserved
loop-id-preserved c = record {
  ascending = subst IsAscending (sym c.in_ok-insert.ensures.added) (IsAscending-with_id _ _ c.loop-id.invariant.ascending);
  has = λ a. one_more c.args.ids.now c.loop-id.ids c.insert.new.self c.args.range.from c.loop-id.id a (omega arith) (c.loop-id.invariant.has a) c.in_ok-insert.ensures.added;
}

pub returns-clause-added : goal.returns-clause-added
returns-clause-added c = absurd (omega arith)

pub returns-in_ok-insert-clause-ascending : goal.returns-in_ok-insert-clause-ascending
returns-in_ok-insert-clause-ascending c = subst IsAscending (sym c.in_ok-insert.ensures.added) (IsAscending-with_id _ _ c.loop-id.invariant.ascending)

pub returns-in_ok-insert-clause-added : goal.returns-in_ok-insert-clause-added
returns-in_ok-insert-clause-added c = λ a.
    let last : c.loop-id.id ≡ c.args.range.to = omega arith in
    one_more c.args.ids.now c.loop-id.ids c.insert.new.self c.args.range.from c.loop-id.id a (omega arith) (c.loop-id.invariant.has a) c.in_ok-insert.ensures.added
    ∙ ap (λ (n : ℕ). has_id c.args.ids.now a || (nat_le c.args.range.from a && nat_lt a (n + 1))) last
    ∙ ap (λ (b : Bool). has_id c.args.ids.now a || b) (within-end c.args.range.from c.args.range.to a)

use Rattle.std.proofs.Common.{◌≡◌, ◌≤◌, ℕ, get_or, subst, inl, inr, arith}
use Rattle.std.proofs.lemmas.Bool.{cases_lt}
use Rattle.ql_base.proofs.IdLemmas.{get_or-rises}
use Rattle.ql_ranges.proofs.ranges.leading_in.Goals as goal

pub loop-count-preserved : goal.loop-count-preserved
loop-count-preserved c = record {
  inside = c.first_above-count.ensures.last;
  has = λ k below. elim (cases_lt k c.loop-count.count) [
    | inl before ↦ c.loop-count.invariant.has k before
    | inr behind ↦
        let end = c.first_above-count.ensures.last in
        let found = c.in-Some.ensures in
        found.1 (get_or c.args.ids.now k 0)
        (get_or-rises c.args.ids.now c.loop-count.count k c.requires.ascending behind (omega (arith, below, end)))
        (elim (cases_lt c.loop-count.count k) [
          | inl after ↦ c.first_above-count.ensures.each k (omega (arith, after)) below
          | inr here ↦ (let same : c.loop-count.count ≡ k = omega (arith, behind, here) in subst (λ (n : ℕ). get_or c.args.ids.now n 0 ≤ c.in-Some.range.to) same found.0)
        ])
  ];
}

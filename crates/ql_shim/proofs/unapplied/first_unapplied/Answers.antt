use Rattle.std.proofs.Common.{ℕ, suc, inl, inr, ◌∙◌, sym, subst, ap, get_or, take, add-one}
use Rattle.std.proofs.lemmas.Bool.{both_ways, cases_lt}
use Rattle.ql_base.specs.IdLists.{has_id}
use Rattle.ql_holder.specs.Closed.{Closed, Has}
use Rattle.ql_holder.specs.Needs.{Needs}
use Rattle.ql_holder.proofs.Members.{index-has}
use Rattle.ql_shim.proofs.JoinedLaws.{below-front, next-has}
use Rattle.ql_shim.proofs.unapplied.first_unapplied.Goals as goal
use Rattle.ql_shim.proofs.unapplied.first_unapplied.Goals.{else-not-has-via-then-not-has+else-not-applied, else-not-has-via-else-not-has}

pub returns-then-not-applied : goal.returns-then-not-applied
returns-then-not-applied g c = λ x fits.
    let saw = c.args.saw.now in
    let k = c.loop-a.a-index in
    record {
      fits = (index-has saw k c.loop-a-test.true, sym c.has.ensures ∙ c.if-not-has.true, λ closed. both_ways c.applied.result c.if-not-applied.true ((c.applied.ensures x fits).1 closed));
      least = λ b lacks. elim (cases_lt b (get_or saw k 0)) [
        | inl less ↦ absurd (lacks.2 (c.loop-a.invariant x fits b (below-front saw k c.requires c.loop-a-test.true b lacks.0 less) lacks.1))
        | inr more ↦ more
      ];
    }

pub loop-a-preserved : goal.loop-a-preserved
loop-a-preserved g c = λ x fits a has other.
    let saw = c.args.saw.now in
    let k = c.loop-a.a-index in
    let one_more : Has (take (suc k) saw) a = subst (λ (n : ℕ). Has (take n saw) a) (add-one k) has in
    elim (next-has saw k c.loop-a-test.true a one_more) [
      | inl old ↦ c.loop-a.invariant x fits a old other
      | inr new ↦ subst (λ (n : ℕ). Closed (Needs x) (Has (g.H.Holder.received c.args.holder.now)) n) new (elim c.else-not-has.branch [
        | else-not-has-via-then-not-has+else-not-applied w ↦ (w.applied.ensures x fits).0 w.if-not-applied.false
        | else-not-has-via-else-not-has w ↦
            absurd (both_ways (has_id c.args.own.now a) other (ap (has_id c.args.own.now) (sym new) ∙ sym c.has.ensures ∙ w.if-not-has.false))
      ])
    ]

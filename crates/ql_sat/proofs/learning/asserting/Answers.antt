use Rattle.std.proofs.Common.{◌≡◌, ◌+◌, ℕ, true, false, get_or, suc, Option, None, Some, drop, sym, ◌∙◌, subst, ◌-◌, arith}
use Rattle.std.specs.Prelude.{IfNone, IfSome, MatchOption}
use Rattle.ql_sat.specs.Trail.{is_seen, IsOneSeen}
use Rattle.ql_sat.specs.declared.trail.Step.{Step}
use Rattle.ql_sat.proofs.Asserting.{first_none, first_of_all, one_here, one_before}
use Rattle.ql_sat.proofs.learning.asserting.Goals as goal

abbrev no_step : Step
no_step = record { lit = record { var = 0; positive = false }; reason = None }

found_first : (o : Option ℕ) (A : Type 0) (B : ℕ → Type 0) → IfNone o A → IfSome o B → MatchOption o A B
found_first None A B none some = none
found_first (Some x) A B none some = some

found_next : (o r : Option ℕ) (A : Type 0) (B : ℕ → Type 0) → MatchOption o A B → IfNone r (o ≡ None) → IfSome r B → MatchOption r A B
found_next o (Some x) A B before none some = some
found_next None None A B before none some = before
found_next (Some x) None A B before none some = absurd (let both : Some x ≡ None = none in cc)

pub decision-to-requires-clause-one : goal.decision-to-requires-clause-one
decision-to-requires-clause-one c = one_here c.args.trail.now c.args.seen.now c.args.at _ c.requires.at c.requires.seen c.requires.later

pub decision-to-requires-clause-first : goal.decision-to-requires-clause-first
decision-to-requires-clause-first c = first_none c.args.trail.now c.args.seen.now (c.args.at + 1) c.requires.later

pub loop-place-init : goal.loop-place-init
loop-place-init c = record {
  low = omega arith;
  one = one_here c.args.trail.now c.args.seen.now c.args.at _ c.requires.at c.requires.seen c.requires.later;
  found = found_first c.decision-to.result _ _ c.decision-to.ensures.none c.decision-to.ensures.asserting;
  first = c.decision-to.ensures.first;
}

pub decision-to-requires-in-loop-place-clause-one : goal.decision-to-requires-in-loop-place-clause-one
decision-to-requires-in-loop-place-clause-one c =
    let next : c.loop-place.place ≡ suc (c.loop-place.place - 1) = omega arith in
    one_before c.args.trail.now c.args.seen.now (c.loop-place.place - 1) _ (omega (arith, c.loop-place.invariant.low, c.requires.at)) (sym c.is_seen.ensures ∙ c.if-not-is_seen.true) (subst (λ (k : ℕ). IsOneSeen c.args.seen.now (drop k c.args.trail.now)) next c.loop-place.invariant.one)

pub loop-place-preserved : goal.loop-place-preserved
loop-place-preserved c =
    let next : c.loop-place.place ≡ suc (c.loop-place.place - 1) = omega arith in
    record {
      low = omega (arith, c.loop-place.invariant.low);
      one = one_before c.args.trail.now c.args.seen.now (c.loop-place.place - 1) _ (omega (arith, c.loop-place.invariant.low, c.requires.at)) (sym c.is_seen.ensures ∙ c.if-not-is_seen.true) (subst (λ (k : ℕ). IsOneSeen c.args.seen.now (drop k c.args.trail.now)) next c.loop-place.invariant.one);
      found = found_next c.loop-place.to c.decision-to-in-loop-place.result _ _ c.loop-place.invariant.found c.decision-to-in-loop-place.ensures.later c.decision-to-in-loop-place.ensures.asserting;
      first = c.decision-to-in-loop-place.ensures.first;
    }

pub returns-else-not-is_seen : goal.returns-else-not-is_seen
returns-else-not-is_seen c =
    let sees : is_seen c.args.seen.now (get_or c.args.trail.now (c.loop-place.place - 1) no_step).lit.var ≡ true = sym c.is_seen.ensures ∙ c.if-not-is_seen.false in
    first_of_all c.args.trail.now c.args.seen.now c.loop-place.place c.loop-place.to no_step _
    (λ i same. let before : c.loop-place.place - 1 ≡ i = omega (arith, same) in subst (λ (n : ℕ). is_seen c.args.seen.now (get_or c.args.trail.now n no_step).lit.var ≡ true) before sees)
    c.loop-place.invariant.one c.loop-place.invariant.first c.loop-place.invariant.found

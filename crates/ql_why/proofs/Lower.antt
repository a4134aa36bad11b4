-- The goals of a target, at its level and below.
use Rattle.std.proofs.Common.{◌≡◌, ℕ, zero, suc, ◌+◌, ◌<◌, ◌≤◌, Bool, List, length, Option, None, Some, get_or, slice_get, refl, sym, ap, subst, ◌∙◌, arith}
use Rattle.std.proofs.lemmas.Option.{same_Some, slice_get-get_or, slice_get_within}
use Rattle.ql_base.specs.declared.ids.OpId.{OpId}
use Rattle.ql_base.specs.declared.ids.DeclId.{DeclId}
use Rattle.ql_classify.specs.Targets.{IsLowerAnswer, goals_at, goals_below, op_at, step_level, step_txn_level, txn_at}
use Rattle.ql_commands.proofs.Headings.{length_goals, op-is, txn-is}
use Rattle.ql_counter.specs.Countermodels.{IsSatisfiedBy}
use Rattle.ql_ground.specs.declared.goal.Goal.{Goal}
use Rattle.ql_ground.specs.declared.goal.Goal.TheVariants.{OpAt, TxnAt}
use Rattle.ql_lang.specs.declared.program.Program.{Program}
use Rattle.ql_levels.specs.Lists.{LevelLists}
use Rattle.ql_levels.specs.declared.level.Level.{Level}
use Rattle.ql_levels.specs.declared.level.Level.TheVariants.{Eventual, Causal, Wide, Strong}
use Rattle.ql_levels.specs.declared.level.TxnLevel.{TxnLevel}
use Rattle.ql_levels.specs.declared.level.TxnLevel.TheVariants.{Rc, Mav, Rr}

module _ (p : Program) (levels : LevelLists) where
  abbrev goals : List Goal
  goals = goals_at levels

  at : (n : ℕ) → n < length goals → slice_get goals n ≡ Some (get_or goals n (op_at 0 Eventual))
  at n l = slice_get-get_or goals n (op_at 0 Eventual) l

  pub op_goal : (o : ℕ) (level : Level) → slice_get levels.ops o ≡ Some level → slice_get goals o ≡ Some (op_at o level)
  op_goal o level e =
      let within = slice_get_within levels.ops o level e in
      let count = length_goals levels in
      let here = at o (omega (arith, within, count)) in
      here ∙ ap (λ (g : Goal). Some g) (sym (op-is p levels o (get_or goals o (op_at 0 Eventual)) level here e))

  pub txn_goal : (n d : ℕ) (level : TxnLevel) → n ≡ length levels.ops + d → slice_get levels.txns d ≡ Some level → slice_get goals n ≡ Some (txn_at d level)
  txn_goal n d level place e =
      let within = slice_get_within levels.txns d level e in
      let count = length_goals levels in
      let here = at n (omega (arith, place, within, count)) in
      here ∙ ap (λ (g : Goal). Some g) (sym (txn-is p levels n d (get_or goals n (op_at 0 Eventual)) level place here e))

pub op_below : (o : OpId) (level : Level) (step : ℕ) (lower : Goal) → slice_get (goals_below (OpAt o level)) step ≡ Some lower → OpAt o (step_level step) ≡ lower
op_below o Eventual step lower e = absurd (cc)
op_below o Causal zero lower e = same_Some _ lower e
op_below o Causal (suc step) lower e = absurd (cc)
op_below o Wide zero lower e = same_Some _ lower e
op_below o Wide (suc zero) lower e = same_Some _ lower e
op_below o Wide (suc (suc step)) lower e = absurd (cc)
op_below o Strong zero lower e = same_Some _ lower e
op_below o Strong (suc zero) lower e = same_Some _ lower e
op_below o Strong (suc (suc zero)) lower e = same_Some _ lower e
op_below o Strong (suc (suc (suc step))) lower e = absurd (cc)

pub txn_below : (d : DeclId) (level : TxnLevel) (step : ℕ) (lower : Goal) → slice_get (goals_below (TxnAt d level)) step ≡ Some lower → TxnAt d (step_txn_level step) ≡ lower
txn_below d Rc step lower e = absurd (cc)
txn_below d Mav zero lower e = same_Some _ lower e
txn_below d Mav (suc step) lower e = absurd (cc)
txn_below d Rr zero lower e = same_Some _ lower e
txn_below d Rr (suc zero) lower e = same_Some _ lower e
txn_below d Rr (suc (suc step)) lower e = absurd (cc)

pub few_below : (g : Goal) → length (goals_below g) ≤ 3
few_below (OpAt o Eventual) = omega arith
few_below (OpAt o Causal) = omega arith
few_below (OpAt o Wide) = omega arith
few_below (OpAt o Strong) = omega arith
few_below (TxnAt d Rc) = omega arith
few_below (TxnAt d Mav) = omega arith
few_below (TxnAt d Rr) = omega arith

-- the assignment that a lower level was left with satisfies the lower goal
answered : (p : Program) (o : Option Goal) (below : Goal) (a : List Bool) → ((h : Goal) → o ≡ Some h → below ≡ h) → IsLowerAnswer p o (Some a) → IsSatisfiedBy p below a
answered p None below a is answer = absurd answer
answered p (Some h) below a is answer = subst (λ (g : Goal). IsSatisfiedBy p g a) (sym (is h refl)) answer

pub lower_satisfied : (p : Program) (goals : List Goal) (n step : ℕ) (g below : Goal) (a : List Bool) → slice_get goals n ≡ Some g → ((h : Goal) → slice_get (goals_below g) step ≡ Some h → below ≡ h)
    → ((k : Goal) × (slice_get goals n ≡ Some k) × IsLowerAnswer p (slice_get (goals_below k) step) (Some a)) → IsSatisfiedBy p below a
lower_satisfied p goals n step g below a at is (k, here, answer) =
    let same : k ≡ g = same_Some k g (sym here ∙ at) in
    answered p (slice_get (goals_below g) step) below a is (subst (λ (h : Goal). IsLowerAnswer p (slice_get (goals_below h) step) (Some a)) same answer)

-- The goals of a finding, and what a target uses, are the program's.
use Rattle.std.proofs.Common.{◌≡◌, ℕ, ◌<◌, List, length, None, Some, slice_get, subst, sym, arith}
use Rattle.std.specs.List.{All}
use Rattle.std.proofs.lemmas.Option.{same_Some}
use Rattle.ql_base.specs.declared.ids.OpId.{OpId}
use Rattle.ql_classify.specs.Finding.{IsFinding, IsOfTarget, IsUnmet}
use Rattle.ql_classify.specs.Targets.{goals_below}
use Rattle.ql_classify.specs.declared.finding.Finding.{Finding}
use Rattle.ql_classify.specs.declared.finding.Finding.TheVariants.{Least, NoLevel}
use Rattle.ql_classify.specs.declared.finding.Unmet.{Unmet}
use Rattle.ql_ground.specs.OfPrograms.{IsGoalOf}
use Rattle.ql_ground.specs.declared.goal.Goal.{Goal}
use Rattle.ql_ground.specs.declared.goal.Goal.TheVariants.{OpAt, TxnAt}
use Rattle.ql_lang.specs.declared.program.Program.{Program}
use Rattle.ql_typing.specs.Operations.{all_ops}
use Rattle.ql_why.proofs.Lower.{op_below, txn_below}
use Rattle.ql_explanation.specs.Explanation.{AreUsesOf, goal_of_finding, unmet_of}

module _ (p : Program) where
  of_target : (target : ℕ) (g : Goal) → IsOfTarget p target g → IsGoalOf p g
  of_target target (OpAt o level) is = is.1
  of_target target (TxnAt d level) is = is.1

  pub goal_known : (f : Finding) → ((target : ℕ) × IsFinding p target f) → IsGoalOf p (goal_of_finding f)
  goal_known (Least g below) (target, is) = of_target target g is.0
  goal_known (NoLevel u) (target, is) = of_target target u.goal is.0

  below_known : (g lower : Goal) (k : ℕ) → slice_get (goals_below g) k ≡ Some lower → IsGoalOf p g → IsGoalOf p lower
  below_known (OpAt o level) lower k at known = subst (IsGoalOf p) (op_below o level k lower at) known
  below_known (TxnAt d level) lower k at known = subst (IsGoalOf p) (txn_below d level k lower at) known

  -- the goal of a finding that isn't met
  pub unmet_known : (f : Finding) (u : Unmet) → ((target : ℕ) × IsFinding p target f) → unmet_of f ≡ Some u → IsGoalOf p u.goal × IsUnmet p u
  unmet_known (Least g None) u found at = absurd (cc)
  unmet_known (Least g (Some v)) u (target, (of, least, implied, (k, count, here, unmet))) at =
      subst (λ (w : Unmet). IsGoalOf p w.goal × IsUnmet p w) (same_Some v u at) (below_known g v.goal k here (of_target target g of), unmet)
  unmet_known (NoLevel v) u (target, (of, highest, unmet)) at = subst (λ (w : Unmet). IsGoalOf p w.goal × IsUnmet p w) (same_Some v u at) (of_target target v.goal of, unmet)

  pub uses_known : (g : Goal) (uses : List OpId) → AreUsesOf p g uses → All (λ (o : OpId). o.0 < length (all_ops p.types)) uses
  uses_known (OpAt o level) uses none = subst (λ (os : List OpId). All (λ (o : OpId). o.0 < length (all_ops p.types)) os) (sym none) (λ k d less. absurd (omega (arith, less)))
  uses_known (TxnAt d level) uses are = λ k e less. (are.sound k e less).known

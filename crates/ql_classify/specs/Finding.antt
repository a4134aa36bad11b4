-- What is found for one target.
use Rattle.std.specs.Prelude.{ℕ, suc, ◌+◌, ◌≡◌, ◌<◌, List, [], Option, None, Some, length, slice_get}
use Rattle.ql_lang.specs.declared.program.Program.{Program}
use Rattle.ql_levels.specs.declared.level.Level.TheVariants.{Strong}
use Rattle.ql_levels.specs.declared.level.TxnLevel.TheVariants.{Rr}
use Rattle.ql_typing.specs.Operations.{all_ops}
use Rattle.ql_ground.specs.declared.goal.Goal.{Goal}
use Rattle.ql_ground.specs.declared.goal.Goal.TheVariants.{OpAt, TxnAt}
use Rattle.ql_implication.specs.OfPrograms.{GivesContract}
use Rattle.ql_counter.specs.Countermodels.{IsSatisfiedBy}
use Rattle.ql_classify.specs.Targets.{IsLeastLevel, goals_below}
use Rattle.ql_classify.specs.declared.finding.Unmet.{Unmet}
use Rattle.ql_classify.specs.declared.finding.Finding.{Finding}
use Rattle.ql_classify.specs.declared.finding.Finding.TheVariants.{Least, NoLevel}

-- the goal is of this target, at some level
abbrev pub IsOfTarget : Program → ℕ → Goal → Type 0
IsOfTarget p target (OpAt o level) = (target ≡ o.0) × (o.0 < length (all_ops p.types))
IsOfTarget p target (TxnAt d level) = (target ≡ length (all_ops p.types) + d.0) × (d.0 < length p.txns)

-- its level is the highest
abbrev pub IsHighest : Goal → Type 0
IsHighest (OpAt o level) = level ≡ Strong
IsHighest (TxnAt d level) = level ≡ Rr

-- its level isn't enough
abbrev pub IsUnmet : Program → Unmet → Type 0
IsUnmet p u = IsSatisfiedBy p u.goal u.assignment

-- the last of these goals isn't met, or there are none
abbrev pub IsLastUnmet : Program → List Goal → Option Unmet → Type 0
IsLastUnmet p goals None = goals ≡ []
IsLastUnmet p goals (Some u) = (k : ℕ) × (suc k ≡ length goals) × (slice_get goals k ≡ Some u.goal) × IsUnmet p u

-- the target at its least level and at the next lower one, or at the highest one where that isn't enough
abbrev pub IsFinding : Program → ℕ → Finding → Type 0
IsFinding p target (Least goal below) = IsOfTarget p target goal × IsLeastLevel p goal × GivesContract p goal × IsLastUnmet p (goals_below goal) below
IsFinding p target (NoLevel u) = IsOfTarget p target u.goal × IsHighest u.goal × IsUnmet p u

-- Least levels over all executions of a program.
use Rattle.std.specs.Prelude.{ℕ, ◌≡◌, ◌-◌, length, nat_lt, if◌then◌else◌, List, [], ◌∷◌}
use Rattle.std.specs.List.{All}
use Rattle.ql_lang.specs.declared.program.Program.{Program}
use Rattle.ql_levels.specs.Lists.{LevelLists}
use Rattle.ql_levels.specs.declared.level.Level.TheVariants.{Strong}
use Rattle.ql_levels.specs.declared.level.TxnLevel.TheVariants.{Rr}
use Rattle.ql_typing.specs.Operations.{all_ops}
use Rattle.ql_ground.specs.declared.goal.Goal.{Goal}
use Rattle.ql_implication.specs.OfPrograms.{GivesContract}
use Rattle.ql_counter.specs.Countermodels.{HasCounter}
use Rattle.ql_classify.specs.Outcome.{IsAccepted}
use Rattle.ql_classify.specs.Targets.{IsLeastLevel, goals_at, goals_below, op_at, txn_at}
use Rattle.ql_classify.specs.declared.classless.Classless.{Classless}
use Rattle.ql_classify.specs.declared.classless.Classless.TheVariants.{NoLevel, StrongInTxn, NoMemory}

-- each of these goals fails in some execution of the program
abbrev pub EachFails : Program → List Goal → Type 0
EachFails p [] = Unit {0}
EachFails p (g ∷ goals) = HasCounter p g × EachFails p goals

-- each level below a target's fails in some execution of the program
abbrev pub LowerFail : Program → Goal → Type 0
LowerFail p g = EachFails p (goals_below g)

-- a level for each operation and each declared transaction that implies its contract
pub record AreEnough (p : Program) (levels : LevelLists) : Type 0 where
  pub ops : length levels.ops ≡ length (all_ops p.types)
  pub txns : length levels.txns ≡ length p.txns
  pub each : All (GivesContract p) (goals_at levels)

-- the levels imply their contracts, and each lower one fails in some execution of the program
pub record AreLeast (p : Program) (levels : LevelLists) : Type 0 where
  pub enough : AreEnough p levels
  pub lower : All (LowerFail p) (goals_at levels)

-- The levels of a program that is accepted: least over all executions, and each the first whose ground problem no
-- assignment satisfies.
pub record AreLevelsOf (p : Program) (levels : LevelLists) : Type 0 where
  pub accepted : IsAccepted p
  pub least : AreLeast p levels
  pub first : All (IsLeastLevel p) (goals_at levels)

-- a target at its highest level; the operations come first
abbrev pub highest : Program → ℕ → Goal
highest p target = if nat_lt target (length (all_ops p.types)) then op_at target Strong else txn_at (target - length (all_ops p.types)) Rr

-- where the refusal is that no level is enough, the highest one fails in some execution
abbrev pub TopFails : Program → Classless → Type 0
TopFails p (NoLevel target a) = HasCounter p (highest p target)
TopFails p (StrongInTxn txn op) = Unit {0}
TopFails p NoMemory = Unit {0}

-- The targets of a program, its operations and then its declared transactions, with their levels.
use Rattle.std.specs.Prelude.{ℕ, zero, suc, ◌+◌, ◌≡◌, ◌≢◌, Bool, Option, None, List, [], ◌∷◌, ◌++◌, length, slice_get, Some}
use Rattle.std.specs.List.{AllZip}
use Rattle.ql_lang.specs.Formulas.{Resolved}
use Rattle.ql_lang.specs.declared.program.Program.{Program}
use Rattle.ql_levels.specs.Lists.{LevelLists}
use Rattle.ql_levels.specs.declared.level.Level.{Level}
use Rattle.ql_levels.specs.declared.level.Level.TheVariants.{Eventual, Causal, Wide, Strong}
use Rattle.ql_levels.specs.declared.level.TxnLevel.{TxnLevel}
use Rattle.ql_levels.specs.declared.level.TxnLevel.TheVariants.{Rc, Mav, Rr}
use Rattle.ql_typing.specs.Operations.{all_ops, op_kinds, op_place, op_contracts, txn_contracts}
use Rattle.ql_ground.specs.Least.{IsLeastOpLevel, IsLeastTxn}
use Rattle.ql_ground.specs.declared.goal.Goal.{Goal}
use Rattle.ql_ground.specs.declared.goal.Goal.TheVariants.{OpAt, TxnAt}
use Rattle.ql_counter.specs.Countermodels.{IsSatisfiedBy}
use Rattle.ql_classify.specs.Goals.{IsEnough}
use Rattle.ql_classify.specs.declared.evidence.Evidence.{Evidence}

abbrev pub op_at : ℕ → Level → Goal
op_at o level = OpAt (record { 0 = o }) level

abbrev pub txn_at : ℕ → TxnLevel → Goal
txn_at d level = TxnAt (record { 0 = d }) level

-- how many targets there are
abbrev pub targets : Program → ℕ
targets p = length (all_ops p.types) + length p.txns

-- the goals of an operation and of a transaction, the lowest level first
abbrev pub op_goals : ℕ → List Goal
op_goals o = op_at o Eventual ∷ op_at o Causal ∷ op_at o Wide ∷ op_at o Strong ∷ []

abbrev pub txn_goals : ℕ → List Goal
txn_goals d = txn_at d Rc ∷ txn_at d Mav ∷ txn_at d Rr ∷ []

-- the level above this many lower ones
abbrev pub step_level : ℕ → Level
step_level zero = Eventual
step_level (suc zero) = Causal
step_level (suc (suc zero)) = Wide
step_level (suc (suc (suc n))) = Strong

abbrev pub step_txn_level : ℕ → TxnLevel
step_txn_level zero = Rc
step_txn_level (suc zero) = Mav
step_txn_level (suc (suc n)) = Rr

-- the goals below a goal: the same target at each lower level, the lowest first
abbrev pub goals_below : Goal → List Goal
goals_below (OpAt o Eventual) = []
goals_below (OpAt o Causal) = OpAt o Eventual ∷ []
goals_below (OpAt o Wide) = OpAt o Eventual ∷ OpAt o Causal ∷ []
goals_below (OpAt o Strong) = OpAt o Eventual ∷ OpAt o Causal ∷ OpAt o Wide ∷ []
goals_below (TxnAt d Rc) = []
goals_below (TxnAt d Mav) = TxnAt d Rc ∷ []
goals_below (TxnAt d Rr) = TxnAt d Rc ∷ TxnAt d Mav ∷ []

-- operations numbered from k, and transactions, each at its level
abbrev pub ops_from : ℕ → List Level → List Goal
ops_from k [] = []
ops_from k (level ∷ levels) = op_at k level ∷ ops_from (suc k) levels

abbrev pub txns_from : ℕ → List TxnLevel → List Goal
txns_from k [] = []
txns_from k (level ∷ levels) = txn_at k level ∷ txns_from (suc k) levels

-- each target at its level, in order
abbrev pub goals_at : LevelLists → List Goal
goals_at levels = ops_from 0 levels.ops ++ txns_from 0 levels.txns

-- the level is an operation's least, or a transaction's
abbrev pub IsOpLevel : Program → ℕ → Level → Type 0
IsOpLevel p o level = (f : Resolved) × (slice_get (op_contracts p.types) o ≡ Some f) × IsLeastOpLevel (op_kinds p.types) o f level

abbrev pub IsTxnLevel : Program → ℕ → TxnLevel → Type 0
IsTxnLevel p d level = (f : Resolved) × (slice_get (txn_contracts p) d ≡ Some f) × IsLeastTxn (op_kinds p.types) f level

-- the same of a goal's level
abbrev pub IsLeastLevel : Program → Goal → Type 0
IsLeastLevel p (OpAt o level) = IsOpLevel p o.0 level
IsLeastLevel p (TxnAt d level) = IsTxnLevel p d.0 level

-- Evidence that the level is least: an assignment for each level below it, and a refutation at it.
pub record IsEvidence (p : Program) (g : Goal) (e : Evidence) : Type 0 where
  pub lower : AllZip (IsSatisfiedBy p) (goals_below g) e.lower.items
  pub enough : IsEnough p g e.refutation.lines

-- the assignment that is reported satisfies the lower goal's problem, and there is one if there is a lower goal
abbrev pub IsLowerAnswer : Program → Option Goal → Option (List Bool) → Type 0
IsLowerAnswer p None None = Unit {0}
IsLowerAnswer p (Some g) (Some a) = IsSatisfiedBy p g a
IsLowerAnswer _ _ _ = ⊥

-- the least level of each operation
pub record AreOpLevels (p : Program) (levels : List Level) : Type 0 where
  pub all : length levels ≡ length (all_ops p.types)
  pub each : (o : ℕ) (level : Level) → slice_get levels o ≡ Some level → IsOpLevel p o level

-- the operation with a name isn't strong; or it is this one, which is
abbrev pub IsWeakUse : Program → List ℕ → Type 0
IsWeakUse p w = (o : ℕ) → op_place p.types w ≡ Some o → (level : Level) × IsOpLevel p o level × (level ≢ Strong)

abbrev pub IsStrongUse : Program → List ℕ → ℕ → Type 0
IsStrongUse p w o = (op_place p.types w ≡ Some o) × IsOpLevel p o Strong

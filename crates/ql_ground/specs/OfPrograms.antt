-- Goals of a program: an operation or a declared transaction at a level.
use Rattle.std.specs.Prelude.{◌≡◌, ◌<◌, Some, length, slice_get}
use Rattle.ql_cnf.specs.Satisfaction.{ClauseList}
use Rattle.ql_lang.specs.Formulas.{Resolved}
use Rattle.ql_lang.specs.declared.program.Program.{Program}
use Rattle.ql_typing.specs.Operations.{all_ops, op_kinds, op_contracts, txn_contracts}
use Rattle.ql_ground.specs.declared.goal.Goal.{Goal}
use Rattle.ql_ground.specs.declared.goal.Goal.TheVariants.{OpAt, TxnAt}
use Rattle.ql_ground.specs.Ground.{op_problem, txn_problem}
use Rattle.ql_ground.specs.Implication.{Implies, ImpliesTxn}

-- the program has the operation or the transaction
abbrev pub IsGoalOf : Program → Goal → Type 0
IsGoalOf p (OpAt o level) = o.0 < length (all_ops p.types)
IsGoalOf p (TxnAt d level) = d.0 < length p.txns

-- the ground problem of the goal's contract
abbrev pub IsProblemOf : Program → Goal → ClauseList → Type 0
IsProblemOf p (OpAt o level) c =
    (f : Resolved) × (slice_get (op_contracts p.types) o.0 ≡ Some f) × (c ≡ op_problem (op_kinds p.types) o.0 level f)
IsProblemOf p (TxnAt d level) c =
    (f : Resolved) × (slice_get (txn_contracts p) d.0 ≡ Some f) × (c ≡ txn_problem (op_kinds p.types) level f)

-- valid implication: in every execution of the program the level's guarantee implies the goal's contract
abbrev pub IsImplied : Program → Goal → Type 0
IsImplied p (OpAt o level) = (f : Resolved) → slice_get (op_contracts p.types) o.0 ≡ Some f → Implies (op_kinds p.types) o.0 level f
IsImplied p (TxnAt d level) = (f : Resolved) → slice_get (txn_contracts p) d.0 ≡ Some f → ImpliesTxn (op_kinds p.types) level f

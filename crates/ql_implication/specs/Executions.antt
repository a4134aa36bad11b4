-- Valid implication over executions: what a level implies at each effect, and of each begun transaction.
use Rattle.std.specs.Prelude.{ℕ, ◌≡◌, ◌<◌, List, Some, length, slice_index}
use Rattle.ql_lang.specs.Formulas.{Resolved}
use Rattle.ql_levels.specs.declared.level.Level.{Level}
use Rattle.ql_levels.specs.declared.level.TxnLevel.{TxnLevel}
use Rattle.ql_levels.specs.Formulas.{formula_of, txn_formula_of}
use Rattle.ql_exec.specs.declared.effect.Effect.{Effect}
use Rattle.ql_exec.specs.Effects.{effect_at}
use Rattle.ql_exec.specs.Execution.{IsExecution}
use Rattle.ql_formula.specs.Truth.{Holds, HoldsTxn}

-- The execution is one of the program whose operations have these types: each effect is of one of the
-- operations, and those on one object are of one type.
pub record FitsProgram (types : List ℕ) (x : List Effect) : Type 0 where
  pub known : (a : ℕ) (e : Effect) → effect_at x a ≡ Some e → e.op.0 < length types
  pub one_type : (a b : ℕ) (e f : Effect) → effect_at x a ≡ Some e → effect_at x b ≡ Some f → e.object.0 ≡ f.object.0 → slice_index types e.op.0 ≡ slice_index types f.op.0

-- in every execution of the program, of any length, each effect of the operation for which the level's guarantee holds
-- meets the contract
abbrev pub IsImplied : List ℕ → ℕ → Level → Resolved → Type 0
IsImplied types o level contract =
    (x : List Effect) → IsExecution x → FitsProgram types x → (cur : ℕ) (e : Effect) → effect_at x cur ≡ Some e → e.op.0 ≡ o
    → Holds x (formula_of level) cur → Holds x contract cur

-- in every execution of the program, each begun transaction for which the level's guarantee holds meets the contract
abbrev pub IsImpliedTxn : List ℕ → TxnLevel → Resolved → Type 0
IsImpliedTxn types level contract =
    (x : List Effect) → IsExecution x → FitsProgram types x → (run : ℕ)
    → HoldsTxn x (txn_formula_of level) run → HoldsTxn x contract run

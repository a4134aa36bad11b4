-- Valid implication: what a level guarantees in every execution, of any length, that fits a program; and least levels.
use Rattle.std.specs.Prelude.{ℕ, ◌≡◌, ◌<◌, Bool, true, List, length, slice_index}
use Rattle.ql_lang.specs.Formulas.{Resolved}
use Rattle.ql_levels.specs.declared.level.Level.{Level}
use Rattle.ql_levels.specs.declared.level.TxnLevel.{TxnLevel}
use Rattle.ql_levels.specs.Formulas.{formula_of, txn_formula_of}
use Rattle.ql_typing.specs.WellFormed.{IsBodyOf, AreChoicesOf}
use Rattle.ql_ground.specs.Effects.{Effect}
use Rattle.ql_ground.specs.Relations.{IsExecution, is_op, sameobj}
use Rattle.ql_ground.specs.Truth.{Holds, HoldsTxn}

-- a contract of the program, of an operation or of a transaction
pub record IsContractOf (types : List ℕ) (has_current : Bool) (f : Resolved) : Type 0 where
  pub vars : AreChoicesOf (length types) f.vars
  pub body : IsBodyOf (length f.vars) has_current f.body

-- The execution is one of the program whose operations have these types: each effect is of one of the
-- operations, and those on one object are of one type.
pub record FitsProgram (types : List ℕ) (x : List Effect) : Type 0 where
  pub known : (a o : ℕ) → is_op x o a ≡ true → o < length types
  pub one_type : (a b o p : ℕ) → sameobj x a b ≡ true → is_op x o a ≡ true → is_op x p b ≡ true → slice_index types o ≡ slice_index types p

-- in every execution of the program, each effect of the operation for which the level's guarantee holds meets the
-- contract
abbrev pub Implies : List ℕ → ℕ → Level → Resolved → Type 0
Implies types o level contract =
    (x : List Effect) → IsExecution x → FitsProgram types x → (cur : ℕ) → is_op x o cur ≡ true
    → Holds x (formula_of level) cur → Holds x contract cur

-- in every execution of the program, each begun transaction for which the level's guarantee holds meets the contract
abbrev pub ImpliesTxn : List ℕ → TxnLevel → Resolved → Type 0
ImpliesTxn types level contract =
    (x : List Effect) → IsExecution x → FitsProgram types x → (run : ℕ)
    → HoldsTxn x (txn_formula_of level) run → HoldsTxn x contract run

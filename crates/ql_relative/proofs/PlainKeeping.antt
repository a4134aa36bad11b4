-- What `specs/Keeping` says of executions, over effects of plain numbers, of which ground problems are proved sound.
use Rattle.std.specs.Prelude.{ℕ, ◌≡◌, Bool, true, List, Some}
use Rattle.ql_lang.specs.Formulas.{Resolved}
use Rattle.ql_levels.specs.Formulas.{formula_of, txn_formula_of}
use Rattle.ql_levels.specs.Lists.{LevelLists}
use Rattle.ql_ground.specs.Effects.{Effect, Inside, effect_at}
use Rattle.ql_ground.specs.Implication.{FitsProgram}
use Rattle.ql_ground.specs.Relations.{IsExecution, is_op}
use Rattle.ql_ground.specs.Truth.{Holds, HoldsTxn}
use Rattle.ql_relative.specs.Keeping.{op_level, txn_level}

-- the guarantee of its operation's level holds at each effect
abbrev pub KeepsLevels : LevelLists → List Effect → Type 0
KeepsLevels levels x = (a : ℕ) (e : Effect) → effect_at x a ≡ Some e → Holds x (formula_of (op_level levels e.op)) a

-- The begun transaction is one of the declared transaction d, of operations that it uses, and the guarantee of its
-- level holds of it. Nothing is required of other transactions.
pub record KeepsLevel (levels : LevelLists) (uses : ℕ → Bool) (x : List Effect) (run d : ℕ) : Type 0 where
  pub own : (a : ℕ) (e : Effect) (name : ℕ) → effect_at x a ≡ Some e → e.member ≡ Inside run name → (name ≡ d) × (uses e.op ≡ true)
  pub holds : HoldsTxn x (txn_formula_of (txn_level levels d)) run

-- in every execution of the program that keeps the levels, each effect of the operation meets the contract
abbrev pub Meets : List ℕ → LevelLists → ℕ → Resolved → Type 0
Meets types levels o contract =
    (x : List Effect) → IsExecution x → FitsProgram types x → KeepsLevels levels x → (cur : ℕ) → is_op x o cur ≡ true → Holds x contract cur

-- in every such execution, each begun transaction that keeps the level of d meets the contract
abbrev pub MeetsTxn : List ℕ → LevelLists → (ℕ → Bool) → ℕ → Resolved → Type 0
MeetsTxn types levels uses d contract =
    (x : List Effect) → IsExecution x → FitsProgram types x → KeepsLevels levels x → (run : ℕ) → KeepsLevel levels uses x run d → HoldsTxn x contract run

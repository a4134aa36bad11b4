-- What is always true of a contract's statements and of their premises.
use Rattle.std.specs.Prelude.{ℕ, ◌≡◌, ◌≢◌, ◌⊎◌, Bool, true, false, List, Some, slice_get}
use Rattle.ql_lang.specs.Formulas.{Statement, Always, Related, BothOf, IfThen, Resolved}
use Rattle.ql_lang.specs.Trees.{Basic}
use Rattle.ql_lang.specs.declared.formula.OpChoice.{OpChoice}
use Rattle.ql_lang.specs.declared.program.Program.{Program}
use Rattle.ql_typing.specs.Operations.{op_contracts, op_kinds, txn_contracts}
use Rattle.ql_ground.specs.declared.goal.Goal.{Goal}
use Rattle.ql_ground.specs.declared.goal.Goal.TheVariants.{OpAt, TxnAt}
use Rattle.ql_exec.specs.declared.effect.Effect.{Effect}
use Rattle.ql_exec.specs.Effects.{effect_at}
use Rattle.ql_exec.specs.Execution.{IsExecution}
use Rattle.ql_formula.specs.Truth.{Chosen, statement_true}
use Rattle.ql_implication.specs.Executions.{FitsProgram}
use Rattle.ql_warnings.specs.declared.known.Known.{Known}

-- the contract of a target
abbrev pub IsTargetContract : Program → Goal → Resolved → Type 0
IsTargetContract p (OpAt o level) f = slice_get (op_contracts p.types) o.0 ≡ Some f
IsTargetContract p (TxnAt d level) f = slice_get (txn_contracts p) d.0 ≡ Some f

-- an operation's contract is about an effect of it, a transaction's about none
abbrev pub IsCurrent : Goal → List Effect → ℕ → Type 0
IsCurrent (OpAt o level) x cur = (e : Effect) × (effect_at x cur ≡ Some e) × (e.op ≡ o)
IsCurrent (TxnAt d level) x cur = Unit {0}

-- any execution of the program, and effects for the variables of a target's contract; levels are ignored
pub record IsScene (p : Program) (g : Goal) (vars : List OpChoice) (x : List Effect) (places : List ℕ) (cur : ℕ) : Type 0 where
  pub lawful : IsExecution x
  pub fits : FitsProgram (op_kinds p.types) x
  pub current : IsCurrent g x cur
  pub chosen : Chosen x vars places

-- the statement has this value in each execution, at each choice of effects, whichever are inside the current transaction
abbrev pub IsAlways : Program → Goal → List OpChoice → Statement → Bool → Type 0
IsAlways p g vars s value =
    (x : List Effect) (inside : ℕ → Bool) (places : List ℕ) (cur : ℕ) → IsScene p g vars x places cur → statement_true x inside places cur s ≡ value

-- the statement is false in each list of effects, at each choice of these, whichever are inside the current transaction
abbrev pub IsNeverTrue : Statement → Type 0
IsNeverTrue s = (x : List Effect) (inside : ℕ → Bool) (places : List ℕ) (cur : ℕ) → statement_true x inside places cur s ≡ false

-- ---- premises

-- a statement on the left of an `=>` of a contract that isn't itself within such a premise
abbrev pub IsPremise : Statement → Statement → Type 0
IsPremise (IfThen p q) s = (p ≡ s) ⊎ IsPremise q s
IsPremise (BothOf p q) s = IsPremise p s ⊎ IsPremise q s
IsPremise _ s = ⊥

-- one of the parts joined by `/\`
abbrev pub IsPart : Statement → Statement → Type 0
IsPart (BothOf p q) s = IsPart p s ⊎ IsPart q s
IsPart p s = p ≡ s

-- a relation as a statement, named at its offset in the source
abbrev pub known_statement : Known → Statement
known_statement k = Related (Basic k.name k.at) k.first k.second

-- each part except this one is true
abbrev pub OthersTrue : List Effect → (ℕ → Bool) → List ℕ → ℕ → Statement → Statement → Type 0
OthersTrue x inside places cur premise part = (s : Statement) → IsPart premise s → s ≢ part → statement_true x inside places cur s ≡ true

-- ---- what warnings mean

-- the contract isn't `true`, and is always true
pub record AsksNothing (p : Program) (g : Goal) : Type 0 where
  pub contract : Resolved
  pub is : IsTargetContract p g contract
  pub other : contract.body ≢ Always
  pub always : IsAlways p g contract.vars contract.body true

-- the premise, with the relation at this offset as a part, is never true
pub record IsNever (p : Program) (g : Goal) (vars : List OpChoice) (premise : Statement) (at : ℕ) : Type 0 where
  pub part : Known
  pub place : part.at ≡ at
  pub among : IsPart premise (known_statement part)
  pub never : IsAlways p g vars premise false

-- the relation at this offset is true wherever all other parts of the premise are
pub record IsUnneeded (p : Program) (g : Goal) (vars : List OpChoice) (premise : Statement) (at : ℕ) : Type 0 where
  pub part : Known
  pub place : part.at ≡ at
  pub among : IsPart premise (known_statement part)
  pub follows : (x : List Effect) (inside : ℕ → Bool) (places : List ℕ) (cur : ℕ) → IsScene p g vars x places cur → OthersTrue x inside places cur premise (known_statement part) → statement_true x inside places cur (known_statement part) ≡ true

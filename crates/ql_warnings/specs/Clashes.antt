-- Relations that can't hold together in any execution of a program.
use Rattle.std.specs.Prelude.{ℕ, ◌≡◌, Bool, true, false, nat_eq, List, Option, None, Some, slice_get}
use Rattle.std.specs.List.{All, list_any}
use Rattle.ql_lang.specs.Formulas.{Statement}
use Rattle.ql_lang.specs.declared.formula.OpChoice.{OpChoice}
use Rattle.ql_lang.specs.declared.formula.OpChoice.TheVariants.{Any, OneOf}
use Rattle.ql_lang.specs.declared.formula.Term.{Term}
use Rattle.ql_lang.specs.declared.formula.Term.TheVariants.{Cur, Var}
use Rattle.ql_lang.specs.declared.program.Program.{Program}
use Rattle.ql_ground.specs.declared.goal.Goal.{Goal}
use Rattle.ql_ground.specs.declared.goal.Goal.TheVariants.{OpAt, TxnAt}
use Rattle.ql_exec.specs.declared.effect.Effect.{Effect}
use Rattle.ql_formula.specs.Truth.{statement_true}
use Rattle.ql_warnings.specs.Known.{IsKnownAt}
use Rattle.ql_warnings.specs.Premises.{IsScene}
use Rattle.ql_warnings.specs.declared.known.Known.{Known}

-- ---- types; here `kinds` has the type of each operation

abbrev pub has_kind : Option ℕ → ℕ → Bool
has_kind None kind = false
has_kind (Some k) kind = nat_eq k kind

-- the operation is of the type
abbrev pub is_operation_of : List ℕ → ℕ → ℕ → Bool
is_operation_of kinds o kind = has_kind (slice_get kinds o) kind

-- the variable may stand for an effect of an operation of the type
abbrev pub choice_may : List ℕ → Option OpChoice → ℕ → Bool
choice_may kinds None kind = true
choice_may kinds (Some Any) kind = true
choice_may kinds (Some (OneOf ops)) kind = list_any (λ o. is_operation_of kinds o kind) ops

-- the term may stand for an effect on an object of the type
abbrev pub may_be : List ℕ → Goal → List OpChoice → Term → ℕ → Bool
may_be kinds (OpAt o level) vars Cur kind = is_operation_of kinds o.0 kind
may_be kinds (TxnAt d level) vars Cur kind = true
may_be kinds g vars (Var v) kind = choice_may kinds (slice_get vars v) kind

-- the two terms never stand for effects on one object: no type is possible for both
abbrev pub HaveNoCommonType : List ℕ → Goal → List OpChoice → Term → Term → Type 0
HaveNoCommonType kinds g vars t u = (o kind : ℕ) → slice_get kinds o ≡ Some kind → may_be kinds g vars t kind ≡ true → may_be kinds g vars u kind ≡ true → ⊥

-- ---- what is known

-- these never all hold
abbrev pub CantHold : Program → Goal → List OpChoice → List Known → Type 0
CantHold p g vars known = (x : List Effect) (places : List ℕ) (cur : ℕ) → IsScene p g vars x places cur → All (IsKnownAt x places cur) known → ⊥

-- wherever these all hold the statement is true
abbrev pub AllEntail : Program → Goal → List OpChoice → List Known → Statement → Type 0
AllEntail p g vars known s =
    (x : List Effect) (inside : ℕ → Bool) (places : List ℕ) (cur : ℕ) → IsScene p g vars x places cur → All (IsKnownAt x places cur) known
    → statement_true x inside places cur s ≡ true

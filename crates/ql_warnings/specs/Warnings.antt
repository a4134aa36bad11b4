-- What each warning means.
use Rattle.std.specs.Prelude.{ℕ, ◌≡◌, ◌≢◌, ◌<◌, ◌⊎◌, List, [], Some, length, slice_get}
use Rattle.std.specs.Option.{option_map}
use Rattle.std.specs.List.{All, Contains}
use Rattle.ql_base.specs.declared.ids.EffId.{EffId}
use Rattle.ql_base.specs.declared.ids.OpId.{OpId}
use Rattle.ql_lang.specs.Formulas.{Resolved, Statement}
use Rattle.ql_lang.specs.declared.contract.Var.{Var}
use Rattle.ql_lang.specs.declared.formula.OpChoice.{OpChoice}
use Rattle.ql_lang.specs.declared.program.Program.{Program}
use Rattle.ql_levels.specs.Formulas.{formula_of}
use Rattle.ql_levels.specs.declared.level.Level.{Level}
use Rattle.ql_typing.specs.Operations.{all_ops, op_contracts, op_place}
use Rattle.ql_exec.specs.declared.effect.Effect.{Effect}
use Rattle.ql_exec.specs.Effects.{effect_at}
use Rattle.ql_formula.specs.Truth.{Holds}
use Rattle.ql_ground.specs.declared.goal.Goal.{Goal}
use Rattle.ql_ground.specs.declared.goal.Goal.TheVariants.{OpAt, TxnAt}
use Rattle.ql_counter.specs.declared.counter.Counter.{Counter}
use Rattle.ql_classify.specs.Finding.{IsFinding}
use Rattle.ql_classify.specs.Targets.{IsOpLevel, targets}
use Rattle.ql_classify.specs.declared.finding.Finding.{Finding}
use Rattle.ql_classify.specs.declared.finding.Finding.TheVariants.{Least, NoLevel}
use Rattle.ql_warnings.specs.Brackets.{IsUnbracketed}
use Rattle.ql_warnings.specs.Places.{IsPlaceOf}
use Rattle.ql_warnings.specs.Premises.{AsksNothing, IsTargetContract, IsNever, IsPremise, IsUnneeded}
use Rattle.ql_warnings.specs.declared.warning.Warning.{Warning}
use Rattle.ql_warnings.specs.declared.warning.Warning.TheVariants as warning

-- ---- names

-- the variables of a target's contract as they are written, and the offset of its name
abbrev pub Declares : Program → Goal → List Var → ℕ → Type 0
Declares p (OpAt o level) vars at =
    (option_map (λ d. d.contract.vars) (slice_get (all_ops p.types) o.0) ≡ Some vars) × (option_map (λ d. d.name.at) (slice_get (all_ops p.types) o.0) ≡ Some at)
Declares p (TxnAt n level) vars at =
    (option_map (λ d. d.contract.vars) (slice_get p.txns n.0) ≡ Some vars) × (option_map (λ d. d.name.at) (slice_get p.txns n.0) ≡ Some at)

-- the name of a target, an operation or a transaction, is at this offset
abbrev pub IsOpName : Program → ℕ → Type 0
IsOpName p at = (o : ℕ) × (option_map (λ d. d.name.at) (slice_get (all_ops p.types) o) ≡ Some at)

abbrev pub IsTxnName : Program → ℕ → Type 0
IsTxnName p at = (d : ℕ) × (option_map (λ d. d.name.at) (slice_get p.txns d) ≡ Some at)

abbrev pub IsTargetName : Program → ℕ → Type 0
IsTargetName p at = IsOpName p at ⊎ IsTxnName p at

-- an offset is before the name of each target declared after the one whose name is at `start`
abbrev pub IsBeforeNext : Program → ℕ → ℕ → Type 0
IsBeforeNext p start at = (next : ℕ) → IsTargetName p next → start < next → at < next

-- a variable stands for any effect, and has the name of an operation
pub record IsNamedAs (p : Program) (vars : List Var) (v : ℕ) (op : OpId) : Type 0 where
  pub var : Var
  pub there : slice_get vars v ≡ Some var
  pub free : var.ops ≡ []
  pub named : op_place p.types var.name.word ≡ Some op.0

-- ---- premises

abbrev pub IsOfPremise : List ℕ → Program → Goal → List OpChoice → Statement → Warning → Type 0
IsOfPremise source p g vars premise (warning.NeverApplies place) = IsPlaceOf source place × IsNever p g vars premise place.at
IsOfPremise source p g vars premise (warning.Unneeded place) = IsPlaceOf source place × IsUnneeded p g vars premise place.at
IsOfPremise source p g vars premise _ = ⊥

-- the warning is true of one of the premises in a contract's body
abbrev pub IsOfPremises : List ℕ → Program → Goal → List OpChoice → Statement → Warning → Type 0
IsOfPremises source p g vars body w = (premise : Statement) × IsPremise body premise × IsOfPremise source p g vars premise w

-- ---- a target's contract

-- What a warning means for a target's contract. Statements without brackets are between its target's name and the next
-- one.
abbrev pub IsWarning : List ℕ → Program → Goal → Warning → Type 0
IsWarning source p g (warning.NamedAsOperation v op) = (vars : List Var) × (at : ℕ) × Declares p g vars at × IsNamedAs p vars v op
IsWarning source p g (warning.Unbracketed place) = (vars : List Var) × (at : ℕ) × Declares p g vars at × IsPlaceOf source place × IsUnbracketed source at place.at × IsBeforeNext p at place.at
IsWarning source p g warning.AsksNothing = AsksNothing p g
IsWarning source p g (warning.NeverApplies place) = (f : Resolved) × IsTargetContract p g f × IsOfPremises source p g f.vars f.body (warning.NeverApplies place)
IsWarning source p g (warning.Unneeded place) = (f : Resolved) × IsTargetContract p g f × IsOfPremises source p g f.vars f.body (warning.Unneeded place)
IsWarning source p g (warning.RuledOut op at) = ⊥

-- the warning is decided by names, or by the source's tokens
abbrev pub IsSyntactic : Warning → Type 0
IsSyntactic (warning.NamedAsOperation v op) = Unit {0}
IsSyntactic (warning.Unbracketed place) = Unit {0}
IsSyntactic _ = ⊥

-- Warnings of a target's contract: each is true, and where names or tokens decide a warning, it is there whenever it is
-- true.
pub record AreWarnings (source : List ℕ) (p : Program) (g : Goal) (ws : List Warning) : Type 0 where
  pub sound : All (IsWarning source p g) ws
  pub complete : (w : Warning) → IsSyntactic w → IsWarning source p g w → Contains ws w

-- ---- the execution that is shown

-- a finding of each target, in order
pub record AreFindings (p : Program) (findings : List Finding) : Type 0 where
  pub all : length findings ≡ targets p
  pub each : (k : ℕ) (f : Finding) → slice_get findings k ≡ Some f → IsFinding p k f

abbrev pub HasLevel : Finding → Type 0
HasLevel (Least g below) = Unit {0}
HasLevel (NoLevel u) = ⊥

-- the target isn't the operation
abbrev pub IsOther : Goal → OpId → Type 0
IsOther (OpAt o level) op = o.0 ≢ op.0
IsOther (TxnAt d level) op = Unit {0}

-- In the execution the contract of an operation is false at one of its effects. So the effect doesn't have what the
-- operation's least level guarantees.
pub record BreaksOther (p : Program) (x : List Effect) (op : OpId) (at : EffId) : Type 0 where
  pub effect : Effect
  pub there : effect_at x at.0 ≡ Some effect
  pub of_op : effect.op ≡ op
  pub contract : Resolved
  pub is : slice_get (op_contracts p.types) op.0 ≡ Some contract
  pub broken : Holds x contract at.0 → ⊥
  pub level : Level
  pub least : IsOpLevel p op.0 level
  pub lacks : Holds x (formula_of level) at.0 → ⊥

-- what a warning means for a countermodel
abbrev pub IsRuledOut : Program → Goal → Counter → Warning → Type 0
IsRuledOut p g c (warning.RuledOut op at) = IsOther g op × BreaksOther p c.execution op at
IsRuledOut p g c _ = ⊥

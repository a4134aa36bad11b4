use Rattle.std.specs.Prelude.{ℕ, ◌≡◌, ◌<◌, List, [], ◌∷◌, All, Option, None, Some, length, slice_get}
use Rattle.std.specs.Option.{option_and_then}
use Rattle.ql_lang.specs.declared.operation.Param.{Param}
use Rattle.ql_lang.specs.declared.operation.Bind.{Bind}
use Rattle.ql_lang.specs.declared.operation.EmitDecl.{EmitDecl}
use Rattle.ql_lang.specs.declared.operation.OpDecl.{OpDecl}
use Rattle.ql_lang.specs.declared.operation.Kind.{Kind}
use Rattle.ql_lang.specs.declared.program.Field.{Field}
use Rattle.ql_lang.specs.declared.program.TypeDecl.{TypeDecl}
use Rattle.ql_typing.specs.Functions.{of_base}
use Rattle.ql_typing.specs.Operations.{all_ops, op_kinds}
use Rattle.ql_value.specs.declared.value.Value.{Value}
use Rattle.ql_exec.specs.declared.effect.Effect.{Effect}
use Rattle.ql_exec.specs.declared.effect.Payload.{Payload}
use Rattle.ql_exec.specs.declared.effect.Payload.TheVariants.{Nothing, Emitted}
use Rattle.ql_exec.specs.declared.folder.Answered.{Answered}
use Rattle.ql_eval.specs.ValueKinds.{HasKind}
use Rattle.ql_eval.specs.Folds.{answer_of, answered_of}

-- values of the kinds of some declarations, one for each
abbrev pub AreOfKinds : {X : Type 0} → (X → Kind) → List X → List Value → Type 0
AreOfKinds kind [] [] = Unit {0}
AreOfKinds kind (x ∷ xs) (v ∷ vs) = HasKind (kind x) v × AreOfKinds kind xs vs
AreOfKinds kind _ _ = ⊥

abbrev pub param_kind : Param → Kind
param_kind p = of_base p.base

abbrev pub bind_kind : Bind → Kind
bind_kind b = of_base b.base

abbrev pub field_kind : Field → Kind
field_kind f = f.kind

-- the values of a type's fields, each of its field's kind
abbrev pub AreFields : Option TypeDecl → List Value → Type 0
AreFields None values = ⊥
AreFields (Some t) values = AreOfKinds field_kind t.fields values

-- the type of an operation, if there is one
abbrev pub type_of_op : List TypeDecl → ℕ → Option TypeDecl
type_of_op types o = option_and_then (slice_get types) (slice_get (op_kinds types) o)

-- the arguments of an operation
abbrev pub AreArgs : Option OpDecl → List Value → Type 0
AreArgs None args = ⊥
AreArgs (Some o) args = AreOfKinds param_kind o.params args

-- what an operation may emit
abbrev pub AreEmitted : Option EmitDecl → List Value → Type 0
AreEmitted None values = ⊥
AreEmitted (Some e) values = AreOfKinds bind_kind e.binds values

-- a payload that an operation's effect may have: nothing, or values of its emitted kinds
abbrev pub FitsOp : Option OpDecl → Payload → Type 0
FitsOp op Nothing = Unit {0}
FitsOp None (Emitted values) = ⊥
FitsOp (Some o) (Emitted values) = AreEmitted o.effect values

-- an effect of an operation of this type
pub record IsOfType (types : List TypeDecl) (kind : Option ℕ) (e : Effect) : Type 0 where
  pub within : e.op.0 < length (all_ops types)
  pub type : slice_get (op_kinds types) e.op.0 ≡ kind
  pub payload : FitsOp (slice_get (all_ops types) e.op.0) e.payload

-- A call can be answered: its operation is in range, its arguments have the parameters' kinds, and each effect is one of
-- an operation of its type.
pub record IsAble (types : List TypeDecl) (o : ℕ) (args : List Value) (effects : List Effect) : Type 0 where
  pub within : o < length (all_ops types)
  pub fit : AreArgs (slice_get (all_ops types) o) args
  pub own : All (IsOfType types (slice_get (op_kinds types) o)) effects

-- an answer and a payload of the kinds that an operation declares
abbrev pub IsAnswerOf : Option OpDecl → Answered → Type 0
IsAnswerOf None given = ⊥
IsAnswerOf (Some o) given = HasKind o.kind given.answer × FitsOp (Some o) given.payload

-- each call that can be answered has an answer by the definition, which is the one that is returned
abbrev pub AnswersAll : List TypeDecl → Type 0
AnswersAll types = (o : ℕ) (args : List Value) (effects : List Effect) → IsAble types o args effects → answer_of types o args effects ≡ Some (answered_of types o args effects)

-- and that answer and its payload have the declared kinds
abbrev pub AnswersFit : List TypeDecl → Type 0
AnswersFit types = (o : ℕ) (args : List Value) (effects : List Effect) → IsAble types o args effects → IsAnswerOf (slice_get (all_ops types) o) (answered_of types o args effects)

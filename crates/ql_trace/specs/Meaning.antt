-- What a line's names and values are in a program.
use Rattle.std.specs.Prelude.{◌≡◌, ℕ, List, [], ◌∷◌, IsUtf8, Option, None, Some, option_map, option_and_then}
use Rattle.serde_json.specs.Data.{Data}
use Rattle.serde_json.specs.Read.{read}
use Rattle.ql_base.specs.declared.ids.DeclId.{DeclId}
use Rattle.ql_lang.specs.declared.operation.Base.{Base}
use Rattle.ql_lang.specs.declared.operation.Bind.{Bind}
use Rattle.ql_lang.specs.declared.operation.EmitDecl.{EmitDecl}
use Rattle.ql_lang.specs.declared.operation.OpDecl.{OpDecl}
use Rattle.ql_lang.specs.declared.operation.Param.{Param}
use Rattle.ql_lang.specs.declared.program.Program.{Program}
use Rattle.ql_typing.specs.Lookups.{txn_place}
use Rattle.ql_typing.specs.Operations.{op_place}
use Rattle.ql_exec.specs.declared.effect.Payload.{Payload}
use Rattle.ql_exec.specs.declared.effect.Payload.TheVariants.{Emitted, Nothing}
use Rattle.ql_value.specs.Contents.{value_of_scalar}
use Rattle.ql_value.specs.declared.value.Value.{Value}
use Rattle.ql_trace.specs.Forms.{HeadingText, ValueTexts, if_there}
use Rattle.ql_trace.specs.Kinds.{as_scalar, as_value}
use Rattle.ql_trace.specs.declared.meaning.Called.{Called}
use Rattle.ql_trace.specs.declared.meaning.Known.{Known}

-- the line is this JSON value
pub record IsJson (text : List ℕ) (d : Data) : Type 0 where
  pub utf8 : IsUtf8 text
  pub is : read text ≡ Some d

-- ---- names

-- the declared name of a transaction, if there is one and the program has it
abbrev pub decl_in : Program → Option (List ℕ × List ℕ) → Option (Option DeclId)
decl_in p None = Some None
decl_in p (Some part) = option_map (λ d. Some (record { 0 = d })) (txn_place p.txns part.1)

-- the operation and that name, if the program has them
abbrev pub known_in : Program → HeadingText → Option Known
known_in p h = option_and_then (λ o. option_map (λ decl. record { op = record { 0 = o }; decl = decl }) (decl_in p h.txn)) (op_place p.types h.op)

-- ---- values

module _ {X : Type 0} (base : X → Base) where
  -- a value for each of some declarations
  unfoldable pub values_as : List X → List Data → Option (List Value)
  values_as [] [] = Some []
  values_as (x ∷ xs) (d ∷ ds) = option_and_then (λ s. option_map (λ vs. value_of_scalar s ∷ vs) (values_as xs ds)) (as_scalar (base x) d)
  values_as _ _ = None

abbrev pub args_as : List Param → List Data → Option (List Value)
args_as params ds = values_as (λ p. p.base) params ds

abbrev pub binds_as : List Bind → List Data → Option (List Value)
binds_as binds ds = values_as (λ b. b.base) binds ds

-- what an operation emitted; one without `emit` emits nothing
abbrev pub payload_as : Option EmitDecl → Option (List Data) → Option Payload
payload_as effect None = Some Nothing
payload_as None (Some ds) = None
payload_as (Some emit) (Some ds) = option_map Emitted (binds_as emit.binds ds)

-- the payload of a call, if it is given
abbrev pub payload_in : Option EmitDecl → Option (Option (List Data)) → Option (Option Payload)
payload_in effect None = Some None
payload_in effect (Some given) = option_map Some (payload_as effect given)

-- the values of a call of an operation, if they are of its numbers and kinds
abbrev pub called_in : OpDecl → ValueTexts → Option Called
called_in op v =
    option_and_then (λ args. option_and_then (λ answer. option_map (λ payload. record { args = args; answer = answer; payload = payload })
    (payload_in op.effect v.payload)) (if_there (as_value op.kind) v.answer)) (args_as op.params v.args)

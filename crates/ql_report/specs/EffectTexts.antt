-- The line of an effect, as
--   effect 3 x deposit (7) = unit emit (7) session 2 txn 1:audit stamp 1 vis 1 2
use Rattle.std.specs.Prelude.{ℕ, ◌<◌, List, [], ◌∷◌, ◌++◌, All, codes, decimal, map, length, slice_get}
use Rattle.std.specs.Option.{option_map_or}
use Rattle.ql_lang.specs.declared.program.Program.{Program}
use Rattle.ql_lines.specs.Fields.{Fields}
use Rattle.ql_lines.specs.Texts.{file_text}
use Rattle.ql_typing.specs.Operations.{all_ops}
use Rattle.ql_typing.specs.Names.{op_name, txn_name}
use Rattle.ql_value.specs.declared.value.Value.{Value}
use Rattle.ql_value.specs.ValueGrammar.{IsValue}
use Rattle.ql_value.specs.Spelling.{separated, value_text}
use Rattle.ql_exec.specs.declared.effect.Effect.{Effect}
use Rattle.ql_exec.specs.declared.effect.Member.{Member}
use Rattle.ql_exec.specs.declared.effect.Member.TheVariants.{Alone, Inside}
use Rattle.ql_exec.specs.declared.effect.Payload.{Payload}
use Rattle.ql_exec.specs.declared.effect.Payload.TheVariants.{Nothing, Emitted}
use Rattle.ql_report.specs.NumberedLines.{lines_from}

-- the name of the object with this number
abbrev pub object_name : List (List ℕ) → ℕ → List ℕ
object_name objects o = option_map_or (λ w. w) (slice_get objects o) []

-- (7, "tea")
abbrev pub values_text : List Value → List ℕ
values_text vs = codes "(" ++ separated (map value_text vs) ++ codes ")"

-- what an effect carries, or `-` for nothing
abbrev pub payload_text : Payload → List ℕ
payload_text Nothing = codes "-"
payload_text (Emitted vs) = values_text vs

-- a begun transaction with its declared name, or `-` for none
abbrev pub member_text : Program → Member → List ℕ
member_text p Alone = codes "-"
member_text p (Inside run decl) = decimal run.0 ++ 58 ∷ txn_name p decl.0

-- the line of an effect, field by field
abbrev pub effect_fields : Program → List (List ℕ) → ℕ → Effect → Fields
effect_fields p objects id e =
    codes "effect" ∷ decimal id ∷ object_name objects e.object.0 ∷ op_name p e.op.0
    ∷ values_text e.args ∷ codes "=" ∷ value_text e.answer ∷ codes "emit" ∷ payload_text e.payload
    ∷ codes "session" ∷ decimal e.session.0 ∷ codes "txn" ∷ member_text p e.member ∷ codes "stamp" ∷ decimal e.stamp
    ∷ codes "vis" ∷ map decimal e.seen

-- the effects of an execution, numbered from 1
abbrev pub effects_text : Program → List (List ℕ) → List Effect → List ℕ
effects_text p objects x = file_text (lines_from (effect_fields p objects) 1 x)

-- an execution between its first line and its last
abbrev pub execution_text : Program → List (List ℕ) → List Effect → List ℕ
execution_text p objects x = codes "execution\n" ++ effects_text p objects x ++ codes "end\n"

-- ---- what can be printed: every number has a name

abbrev pub IsDeclared : Program → Member → Type 0
IsDeclared p Alone = Unit {0}
IsDeclared p (Inside run decl) = decl.0 < length p.txns

pub record IsNamed (p : Program) (objects : ℕ) (e : Effect) : Type 0 where
  pub object : e.object.0 < objects
  pub op : e.op.0 < length (all_ops p.types)
  pub txn : IsDeclared p e.member

abbrev pub AreNamed : Program → ℕ → List Effect → Type 0
AreNamed p objects x = All (IsNamed p objects) x

-- ---- what is printed: values of the grammar

abbrev pub CarriesValues : Payload → Type 0
CarriesValues Nothing = Unit {0}
CarriesValues (Emitted vs) = All IsValue vs

-- the arguments of an effect, its answer and what it carries are values
pub record HasValues (e : Effect) : Type 0 where
  pub args : All IsValue e.args
  pub answer : IsValue e.answer
  pub payload : CarriesValues e.payload

abbrev pub HaveValues : List Effect → Type 0
HaveValues x = All HasValues x

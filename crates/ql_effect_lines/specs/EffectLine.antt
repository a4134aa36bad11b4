-- The line of an effect, as
--   effect 3 x deposit (7) = unit emit (7) session 2 txn 1:audit stamp 1 vis 1 2
use Rattle.std.specs.Prelude.{◌≡◌, ℕ, ◌≤◌, List, [], ◌∷◌, ◌++◌, map, codes, decimal, Option, None, Some}
use Rattle.std.specs.List.{AllByRecursion}
use Rattle.ql_base.specs.IdLists.{IsAscending}
use Rattle.ql_base.specs.Names.{IsName}
use Rattle.ql_lines.specs.Fields.{Fields, FirstField, IsId, fields_of}
use Rattle.ql_value.specs.declared.value.Value.{Value}
use Rattle.ql_exec.specs.declared.effect.Payload.{Payload}
use Rattle.ql_exec.specs.declared.effect.Payload.TheVariants.{Nothing, Emitted}
use Rattle.ql_effect_lines.specs.declared.effect_line.EffectLine.{EffectLine}
use Rattle.ql_effect_lines.specs.declared.setting.Begun.{Begun}
use Rattle.ql_effect_lines.specs.declared.setting.Setting.{Setting}
use Rattle.ql_effect_lines.specs.Parts.{FieldAt, FieldsAt, ValueAt, ValuesAt}

-- ---- the session, the transaction, the stamp and what is seen

-- a begun transaction with its declared name, or none
abbrev pub txn_text : Option Begun → List ℕ
txn_text None = codes "-"
txn_text (Some t) = decimal t.run ++ 58 ∷ t.name

-- session 2 txn 1:audit stamp 1 vis 1 2
abbrev pub setting_fields : Setting → Fields
setting_fields s =
    codes "session" ∷ decimal s.session ∷ codes "txn" ∷ txn_text s.txn ∷ codes "stamp" ∷ decimal s.stamp ∷ codes "vis"
    ∷ map decimal s.seen

-- begun transactions are numbered from 1
abbrev pub FitsTxn : Option Begun → Type 0
FitsTxn None = Unit {0}
FitsTxn (Some t) = (1 ≤ t.run) × IsId t.run × IsName t.name

pub record IsSetting (text : List ℕ) (s : Setting) : Type 0 where
  pub session : s.session ≤ 255
  pub txn : FitsTxn s.txn
  pub stamp : IsId s.stamp
  pub ids : AllByRecursion IsId s.seen
  pub ascending : IsAscending s.seen
  pub is : fields_of text ≡ setting_fields s

-- ---- the whole line

-- (7) = unit
pub record CallAt (args : List Value) (answer : Value) (text rest : List ℕ) : Type 0 where
  pub past_args : List ℕ
  pub past_mark : List ℕ
  pub called_with : FieldAt ValuesAt args text past_args
  pub mark : FirstField past_args (codes "=") past_mark
  pub answered : FieldAt ValueAt answer past_mark rest

abbrev pub PayloadAt : Payload → List ℕ → List ℕ → Type 0
PayloadAt Nothing text rest = FirstField text (codes "-") rest
PayloadAt (Emitted vs) text rest = FieldAt ValuesAt vs text rest

-- emit (7)
pub record EmitAt (payload : Payload) (text rest : List ℕ) : Type 0 where
  pub past_word : List ℕ
  pub word : FirstField text (codes "emit") past_word
  pub carried : PayloadAt payload past_word rest

-- the text is the line of this effect, with this number
pub record IsEffectLine (text : List ℕ) (id : ℕ) (e : EffectLine) : Type 0 where
  pub object : IsName e.object
  pub op : IsName e.op
  pub past_op : List ℕ
  pub past_answer : List ℕ
  pub past_payload : List ℕ
  pub names : FieldsAt (codes "effect" ∷ decimal id ∷ e.object ∷ e.op ∷ []) text past_op
  pub call : CallAt e.args e.answer past_op past_answer
  pub emit : EmitAt e.payload past_answer past_payload
  pub setting : IsSetting past_payload e.setting

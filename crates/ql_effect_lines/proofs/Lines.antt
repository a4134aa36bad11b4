-- a line describes one effect
use Rattle.std.proofs.Common.{◌≡◌, ℕ, List, [], ◌∷◌, ◌++◌, length, get_or, drop, decimal, codes, arith, refl, sym, ap, subst, ◌∙◌, append_assoc, replicate}
use Rattle.std.proofs.lemmas.Fmt.{decimal_injective}
use Rattle.ql_lines.specs.Fields.{FirstField, fields_of, Fields}
use Rattle.ql_value.specs.declared.value.Value.{Value}
use Rattle.ql_value.specs.Reading.{after_spaces}
use Rattle.ql_exec.specs.declared.effect.Payload.{Payload}
use Rattle.ql_exec.specs.declared.effect.Payload.TheVariants.{Nothing, Emitted}
use Rattle.ql_effect_lines.specs.declared.effect_line.EffectLine.{EffectLine}
use Rattle.ql_effect_lines.specs.declared.setting.Setting.{Setting}
use Rattle.ql_effect_lines.specs.Parts.{FieldAt, FieldsAt, ValueAt, ValuesAt}
use Rattle.ql_effect_lines.specs.EffectLine.{CallAt, EmitAt, IsEffectLine, IsSetting, PayloadAt, setting_fields}
use Rattle.ql_lines.proofs.WrittenNumbers.{same_numbers}
use Rattle.ql_effect_lines.proofs.FirstFields.{fields_at, one_first, one_row}
use Rattle.ql_effect_lines.proofs.Parts.{gap_gone, list_starts, no_list, one_field, one_list, one_value, part_of, value_starts}
use Rattle.ql_effect_lines.proofs.Txns.{one_txn}

pub one_values : (vs ws : List Value) (text r q : List ℕ) → FieldAt ValuesAt vs text r → FieldAt ValuesAt ws text q → (vs ≡ ws) × (r ≡ q)
one_values vs ws text r q f g = one_field ValuesAt list_starts one_list vs ws text r q f g

pub one_answer : (v w : Value) (text r q : List ℕ) → FieldAt ValueAt v text r → FieldAt ValueAt w text q → (v ≡ w) × (r ≡ q)
one_answer v w text r q f g = one_field ValueAt value_starts one_value v w text r q f g

-- ---- the call

pub one_call : (vs ws : List Value) (v w : Value) (text r q : List ℕ) → CallAt vs v text r → CallAt ws w text q → (vs ≡ ws) × (v ≡ w) × (r ≡ q)
one_call vs ws v w text r q f g =
    let args = one_values vs ws text f.past_args g.past_args f.called_with g.called_with in
    let mark = one_first g.past_args (codes "=") (codes "=") f.past_mark g.past_mark (subst (λ (t : List ℕ). FirstField t (codes "=") f.past_mark) args.1 f.mark) g.mark in
    let answer = one_answer v w g.past_mark r q (subst (λ (t : List ℕ). FieldAt ValueAt v t r) mark.1 f.answered) g.answered in
    (args.0, answer.0, answer.1)

-- ---- the payload

dash_and_list : (text r q : List ℕ) (vs : List Value) → FirstField text (codes "-") r → FieldAt ValuesAt vs text q → ⊥
dash_and_list text r q vs f g =
    let start : after_spaces text ≡ codes "-" ++ r =
    ap after_spaces (f.stands ∙ append_assoc (replicate f.spaces 32) (codes "-") r) ∙ gap_gone f.spaces (codes "-" ++ r) refl in
    no_list (codes "-" ++ r) refl vs q (subst (λ (t : List ℕ). ValuesAt vs t q) start (part_of ValuesAt list_starts vs text q g))

one_payload : (p s : Payload) (text r q : List ℕ) → PayloadAt p text r → PayloadAt s text q → (p ≡ s) × (r ≡ q)
one_payload Nothing Nothing text r q f g = (refl, (one_first text (codes "-") (codes "-") r q f g).1)
one_payload Nothing (Emitted ws) text r q f g = absurd (dash_and_list text r q ws f g)
one_payload (Emitted vs) Nothing text r q f g = absurd (dash_and_list text q r vs g f)
one_payload (Emitted vs) (Emitted ws) text r q f g = let same = one_values vs ws text r q f g in (ap Emitted same.0, same.1)

pub one_emit : (p s : Payload) (text r q : List ℕ) → EmitAt p text r → EmitAt s text q → (p ≡ s) × (r ≡ q)
one_emit p s text r q f g =
    let word = one_first text (codes "emit") (codes "emit") f.past_word g.past_word f.word g.word in
    one_payload p s g.past_word r q (subst (λ (t : List ℕ). PayloadAt p t r) word.1 f.carried) g.carried

-- ---- the setting

pub one_setting : (text : List ℕ) (s t : Setting) → IsSetting text s → IsSetting text t → s ≡ t
one_setting text s t p q =
    let same : setting_fields s ≡ setting_fields t = sym p.is ∙ q.is in
    let session : s.session ≡ t.session =
    decimal_injective s.session t.session (omega (arith, p.session)) (omega (arith, q.session)) (ap (λ (fs : Fields). get_or fs 1 []) same) in
    let txn : s.txn ≡ t.txn = one_txn s.txn t.txn p.txn q.txn (ap (λ (fs : Fields). get_or fs 3 []) same) in
    let stamp : s.stamp ≡ t.stamp =
    decimal_injective s.stamp t.stamp (omega (arith, p.stamp)) (omega (arith, q.stamp)) (ap (λ (fs : Fields). get_or fs 5 []) same) in
    let seen : s.seen ≡ t.seen = same_numbers s.seen t.seen p.ids q.ids (ap (λ (fs : Fields). drop 7 fs) same) in
    ap (λ a. record { session = a; txn = s.txn; stamp = s.stamp; seen = s.seen }) session
    ∙ ap (λ a. record { session = t.session; txn = a; stamp = s.stamp; seen = s.seen }) txn
    ∙ ap (λ a. record { session = t.session; txn = t.txn; stamp = a; seen = s.seen }) stamp
    ∙ ap (λ a. record { session = t.session; txn = t.txn; stamp = t.stamp; seen = a }) seen

-- ---- the line

abbrev pub name_fields : ℕ → List ℕ → List ℕ → Fields
name_fields id object op = codes "effect" ∷ decimal id ∷ object ∷ op ∷ []

module _ (text : List ℕ) (id : ℕ) (e : EffectLine) (p : IsEffectLine text id e) where
  -- where a line goes on with its call, its payload and its setting
  module _ (object op rest : List ℕ) (names : FieldsAt (name_fields id object op) text rest) where
    pub call_behind : CallAt e.args e.answer rest p.past_answer
    call_behind =
        let row = one_row (name_fields id object op) (name_fields id e.object e.op) text rest p.past_op refl names p.names in
        subst (λ (t : List ℕ). CallAt e.args e.answer t p.past_answer) (sym row.1) p.call

    module _ (args : List Value) (answer : Value) (remaining : List ℕ) (call : CallAt args answer rest remaining) where
      pub emit_behind : EmitAt e.payload remaining p.past_payload
      emit_behind =
          let same = one_call args e.args answer e.answer rest remaining p.past_answer call call_behind in
          subst (λ (t : List ℕ). EmitAt e.payload t p.past_payload) (sym same.2) p.emit

      pub setting_behind : (payload : Payload) (last : List ℕ) → EmitAt payload remaining last → IsSetting last e.setting
      setting_behind payload last emit =
          let same = one_emit payload e.payload remaining last p.past_payload emit emit_behind in
          subst (λ (t : List ℕ). IsSetting t e.setting) (sym same.1) p.setting

-- a line describes one effect
pub one_effect : (text : List ℕ) (id : ℕ) (e f : EffectLine) → IsEffectLine text id e → IsEffectLine text id f → e ≡ f
one_effect text id e f p q =
    let row = one_row (name_fields id e.object e.op) (name_fields id f.object f.op) text p.past_op q.past_op refl p.names q.names in
    let call_there = call_behind text id f q e.object e.op p.past_op p.names in
    let call = one_call e.args f.args e.answer f.answer p.past_op p.past_answer q.past_answer p.call call_there in
    let emit_there = emit_behind text id f q e.object e.op p.past_op p.names e.args e.answer p.past_answer p.call in
    let payload = one_emit e.payload f.payload p.past_answer p.past_payload q.past_payload p.emit emit_there in
    let setting_there = setting_behind text id f q e.object e.op p.past_op p.names e.args e.answer p.past_answer p.call e.payload p.past_payload p.emit in
    let setting = one_setting p.past_payload e.setting f.setting p.setting setting_there in
    let object : e.object ≡ f.object = ap (λ (fs : Fields). get_or fs 2 []) row.0 in
    let op : e.op ≡ f.op = ap (λ (fs : Fields). get_or fs 3 []) row.0 in
    ap (λ a. record { object = a; op = e.op; args = e.args; answer = e.answer; payload = e.payload; setting = e.setting }) object
    ∙ ap (λ a. record { object = f.object; op = a; args = e.args; answer = e.answer; payload = e.payload; setting = e.setting }) op
    ∙ ap (λ a. record { object = f.object; op = f.op; args = a; answer = e.answer; payload = e.payload; setting = e.setting }) call.0
    ∙ ap (λ a. record { object = f.object; op = f.op; args = f.args; answer = a; payload = e.payload; setting = e.setting }) call.1
    ∙ ap (λ a. record { object = f.object; op = f.op; args = f.args; answer = f.answer; payload = a; setting = e.setting }) payload.0
    ∙ ap (λ a. record { object = f.object; op = f.op; args = f.args; answer = f.answer; payload = f.payload; setting = a }) setting

pub no_effect_ends : (text : List ℕ) (id : ℕ) (e : EffectLine) → IsEffectLine text id e → (f : List ℕ) → fields_of text ≡ f ∷ [] → ⊥
no_effect_ends text id e p f end = omega (arith, ap length (sym (fields_at (name_fields id e.object e.op) text p.past_op p.names) ∙ end))

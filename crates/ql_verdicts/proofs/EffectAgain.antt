-- the line of an effect is read as that effect
use Rattle.std.proofs.Common.{◌≡◌, ℕ, ◌<◌, ◌≤◌, ◌^◌, false, List, [], ◌∷◌, All, Option, Some, None, length, map, decimal, codes, arith, refl, ap, sym, subst, ◌∙◌}
use Rattle.std.specs.List.{AllByRecursion}
use Rattle.ql_base.specs.IdLists.{IsAscending}
use Rattle.ql_base.specs.Names.{IsName}
use Rattle.ql_lang.specs.declared.program.Program.{Program}
use Rattle.ql_lines.specs.Fields.{Fields, IsId, is_space}
use Rattle.ql_lines.specs.Lines.{is_skipped}
use Rattle.ql_lines.specs.Texts.{spaced_fields, joined}
use Rattle.ql_lines.proofs.LineEnds.{Stay, joined_stay, stay_both, stays_of}
use Rattle.ql_lines.proofs.TextLaws.{joined_spaced, not_skipped}
use Rattle.ql_typing.specs.Names.{op_name, txn_name}
use Rattle.ql_value.specs.declared.value.Value.{Value}
use Rattle.ql_value.specs.Spelling.{value_text}
use Rattle.ql_value.specs.ValueGrammar.{IsValue}
use Rattle.ql_exec.specs.declared.effect.Effect.{Effect}
use Rattle.ql_exec.specs.declared.effect.Member.{Member}
use Rattle.ql_exec.specs.declared.effect.Member.TheVariants.{Alone, Inside}
use Rattle.ql_exec.specs.declared.effect.Payload.{Payload}
use Rattle.ql_exec.specs.declared.effect.Payload.TheVariants.{Nothing, Emitted}
use Rattle.ql_effect_lines.specs.declared.effect_line.EffectLine.{EffectLine}
use Rattle.ql_effect_lines.specs.declared.setting.Begun.{Begun}
use Rattle.ql_effect_lines.specs.declared.setting.Setting.{Setting}
use Rattle.ql_effect_lines.specs.EffectLine.{CallAt, EmitAt, FitsTxn, IsEffectLine, IsSetting, PayloadAt, txn_text}
use Rattle.ql_effect_lines.specs.Parts.{ValueAt, ValuesAt}
use Rattle.ql_report.specs.EffectTexts.{CarriesValues, effect_fields, member_text, object_name, payload_text, values_text}
use Rattle.ql_verdicts.specs.Printable.{FitsMember, IsWritable}
use Rattle.ql_verdicts.proofs.FieldsAgain.{IsOneField, fields_behind, first_field, high_stay, name_bytes, name_field, next_field, number_field, part_field, txn_field, value_part, value_stay, values_part, values_stay}
use Rattle.ql_verdicts.proofs.LinesAgain.{decimal_stay}

-- ---- what the line of an effect says

abbrev pub begun_of : Program → Member → Option Begun
begun_of p Alone = None
begun_of p (Inside run decl) = Some (record { run = run.0; name = txn_name p decl.0 })

abbrev pub setting_of : Program → Effect → Setting
setting_of p e = record { session = e.session.0; txn = begun_of p e.member; stamp = e.stamp; seen = e.seen }

abbrev pub line_of : Program → List (List ℕ) → Effect → EffectLine
line_of p objects e = record {
  object = object_name objects e.object.0;
  op = op_name p e.op.0;
  args = e.args;
  answer = e.answer;
  payload = e.payload;
  setting = setting_of p e;
}

-- ---- words

word : (w : List ℕ) → 0 < length w → AllByRecursion (λ b. is_space b ≡ false) w → IsOneField w
word w some h = record { some = some; no_space = h }

effect_word : IsOneField (codes "effect")
effect_word = word (codes "effect") (omega arith) (refl, (refl, (refl, (refl, (refl, (refl, tt))))))

equals_word : IsOneField (codes "=")
equals_word = word (codes "=") (omega arith) (refl, tt)

emit_word : IsOneField (codes "emit")
emit_word = word (codes "emit") (omega arith) (refl, (refl, (refl, (refl, tt))))

session_word : IsOneField (codes "session")
session_word = word (codes "session") (omega arith) (refl, (refl, (refl, (refl, (refl, (refl, (refl, tt)))))))

txn_word : IsOneField (codes "txn")
txn_word = word (codes "txn") (omega arith) (refl, (refl, (refl, tt)))

stamp_word : IsOneField (codes "stamp")
stamp_word = word (codes "stamp") (omega arith) (refl, (refl, (refl, (refl, (refl, tt)))))

vis_word : IsOneField (codes "vis")
vis_word = word (codes "vis") (omega arith) (refl, (refl, (refl, tt)))

none_word : IsOneField (codes "-")
none_word = word (codes "-") (omega arith) (refl, tt)

-- ---- the parts of a line

abbrev pub NamedMember : Program → Member → Type 0
NamedMember p Alone = Unit {0}
NamedMember p (Inside run decl) = IsName (txn_name p decl.0)

member_field : (p : Program) (m : Member) → NamedMember p m → IsOneField (member_text p m)
member_field p Alone h = none_word
member_field p (Inside run decl) h = txn_field run.0 (txn_name p decl.0) h

member_is : (p : Program) (m : Member) → txn_text (begun_of p m) ≡ member_text p m
member_is p Alone = refl
member_is p (Inside run decl) = refl

member_fits : (p : Program) (m : Member) → NamedMember p m → FitsMember m → FitsTxn (begun_of p m)
member_fits p Alone named fits = tt
member_fits p (Inside run decl) named fits = (fits.0, fits.1, named)

id_fields : (ids : List ℕ) → AllByRecursion IsOneField (map decimal ids)
id_fields [] = tt
id_fields (id ∷ ids) = (number_field id, id_fields ids)

abbrev setting_row : Program → Effect → Fields
setting_row p e =
    codes "session" ∷ decimal e.session.0 ∷ codes "txn" ∷ member_text p e.member ∷ codes "stamp" ∷ decimal e.stamp ∷ codes "vis" ∷ map decimal e.seen

is_setting : (p : Program) (e : Effect) → NamedMember p e.member → IsWritable e → e.stamp < 2 ^ 32 → AllByRecursion IsId e.seen → IsAscending e.seen → IsSetting (spaced_fields (setting_row p e)) (setting_of p e)
is_setting p e named is stamp ids ascending = record {
  session = is.session;
  txn = member_fits p e.member named is.member;
  stamp = stamp;
  ids = ids;
  ascending = ascending;
  is =
      fields_behind (setting_row p e) (session_word, (number_field e.session.0, (txn_word, (member_field p e.member named, (stamp_word, (number_field e.stamp, (vis_word, id_fields e.seen)))))))
      ∙ ap (λ t. codes "session" ∷ decimal e.session.0 ∷ codes "txn" ∷ t ∷ codes "stamp" ∷ decimal e.stamp ∷ codes "vis" ∷ map decimal e.seen) (sym (member_is p e.member));
}

is_call : (args : List Value) (answer : Value) (fs : Fields) → All IsValue args → IsValue answer → CallAt args answer (spaced_fields (values_text args ∷ codes "=" ∷ value_text answer ∷ fs)) (spaced_fields fs)
is_call args answer fs values value = record {
  past_args = spaced_fields (codes "=" ∷ value_text answer ∷ fs);
  past_mark = spaced_fields (value_text answer ∷ fs);
  called_with = part_field ValuesAt args (values_text args) (codes "=" ∷ value_text answer ∷ fs) (values_part args (codes "=" ∷ value_text answer ∷ fs) values);
  mark = next_field (codes "=") (value_text answer ∷ fs) equals_word;
  answered = part_field ValueAt answer (value_text answer) fs (value_part answer fs value);
}

is_payload : (payload : Payload) (fs : Fields) → CarriesValues payload → PayloadAt payload (spaced_fields (payload_text payload ∷ fs)) (spaced_fields fs)
is_payload Nothing fs fits = next_field (codes "-") fs none_word
is_payload (Emitted vs) fs fits = part_field ValuesAt vs (values_text vs) fs (values_part vs fs fits)

is_emit : (payload : Payload) (fs : Fields) → CarriesValues payload → EmitAt payload (spaced_fields (codes "emit" ∷ payload_text payload ∷ fs)) (spaced_fields fs)
is_emit payload fs fits = record {
  past_word = spaced_fields (payload_text payload ∷ fs);
  word = next_field (codes "emit") (payload_text payload ∷ fs) emit_word;
  carried = is_payload payload fs fits;
}

-- ---- the whole line

module _ (p : Program) (objects : List (List ℕ)) (id : ℕ) (e : Effect) (named_object : IsName (object_name objects e.object.0)) (named_op : IsName (op_name p e.op.0))
    (named : NamedMember p e.member) (is : IsWritable e) where
  unfoldable after_emit : Fields
  after_emit = setting_row p e

  unfoldable after_call : Fields
  after_call = codes "emit" ∷ payload_text e.payload ∷ setting_row p e

  unfoldable after_op : Fields
  after_op = values_text e.args ∷ codes "=" ∷ value_text e.answer ∷ codes "emit" ∷ payload_text e.payload ∷ setting_row p e

  pub is_effect_line : e.stamp < 2 ^ 32 → AllByRecursion IsId e.seen → IsAscending e.seen → IsEffectLine (joined (effect_fields p objects id e)) id (line_of p objects e)
  unfolding after_emit after_call after_op
  is_effect_line stamp ids ascending = subst (λ text. IsEffectLine text id (line_of p objects e)) (sym (joined_spaced (codes "effect") (decimal id ∷ object_name objects e.object.0 ∷ op_name p e.op.0 ∷ after_op))) (record {
    object = named_object;
    op = named_op;
    past_op = spaced_fields after_op;
    past_answer = spaced_fields after_call;
    past_payload = spaced_fields after_emit;
    names = (
      spaced_fields (decimal id ∷ object_name objects e.object.0 ∷ op_name p e.op.0 ∷ after_op),
      first_field (codes "effect") (decimal id ∷ object_name objects e.object.0 ∷ op_name p e.op.0 ∷ after_op) effect_word,
      (
        spaced_fields (object_name objects e.object.0 ∷ op_name p e.op.0 ∷ after_op),
        next_field (decimal id) (object_name objects e.object.0 ∷ op_name p e.op.0 ∷ after_op) (number_field id),
        (
          spaced_fields (op_name p e.op.0 ∷ after_op),
          next_field (object_name objects e.object.0) (op_name p e.op.0 ∷ after_op) (name_field (object_name objects e.object.0) named_object),
          (spaced_fields after_op, next_field (op_name p e.op.0) after_op (name_field (op_name p e.op.0) named_op), refl),
        ),
      ),
    );
    call = is_call e.args e.answer after_call is.values.args is.values.answer;
    emit = is_emit e.payload after_emit is.values.payload;
    setting = is_setting p e named is stamp ids ascending;
  })

  name_stay : (w : List ℕ) → IsName w → Stay w
  name_stay w n = high_stay w (name_bytes w n)

  member_stay : (m : Member) → NamedMember p m → Stay (member_text p m)
  member_stay Alone h = (stays_of 45 (omega arith), tt)
  member_stay (Inside run decl) h = stay_both (decimal run.0) (58 ∷ txn_name p decl.0) (decimal_stay run.0) (stays_of 58 (omega arith), name_stay (txn_name p decl.0) h)

  payload_stay : (payload : Payload) → CarriesValues payload → Stay (payload_text payload)
  payload_stay Nothing h = (stays_of 45 (omega arith), tt)
  payload_stay (Emitted vs) h = values_stay vs h

  ids_stay : (ids : List ℕ) → AllByRecursion Stay (map decimal ids)
  ids_stay [] = tt
  ids_stay (i ∷ ids) = (decimal_stay i, ids_stay ids)

  high_word : (w : List ℕ) → AllByRecursion (λ b. 33 ≤ b) w → Stay w
  high_word w h = high_stay w h

  pub effect_stays : Stay (joined (effect_fields p objects id e))
  effect_stays = joined_stay (effect_fields p objects id e) (
    high_word (codes "effect") (omega arith, (omega arith, (omega arith, (omega arith, (omega arith, (omega arith, tt)))))),
    (
      decimal_stay id,
      (
        name_stay (object_name objects e.object.0) named_object,
        (
          name_stay (op_name p e.op.0) named_op,
          (
            values_stay e.args is.values.args,
            (
              (stays_of 61 (omega arith), tt),
              (
                value_stay e.answer is.values.answer,
                (
                  high_word (codes "emit") (omega arith, (omega arith, (omega arith, (omega arith, tt)))),
                  (
                    payload_stay e.payload is.values.payload,
                    (
                      high_word (codes "session") (omega arith, (omega arith, (omega arith, (omega arith, (omega arith, (omega arith, (omega arith, tt))))))),
                      (
                        decimal_stay e.session.0,
                        (
                          high_word (codes "txn") (omega arith, (omega arith, (omega arith, tt))),
                          (
                            member_stay e.member named,
                            (
                              high_word (codes "stamp") (omega arith, (omega arith, (omega arith, (omega arith, (omega arith, tt))))),
                              (
                                decimal_stay e.stamp,
                                (high_word (codes "vis") (omega arith, (omega arith, (omega arith, tt))), ids_stay e.seen),
                              ),
                            ),
                          ),
                        ),
                      ),
                    ),
                  ),
                ),
              ),
            ),
          ),
        ),
      ),
    ),
  )

  pub effect_reported : is_skipped (joined (effect_fields p objects id e)) ≡ false
  effect_reported = not_skipped 101 _ refl refl

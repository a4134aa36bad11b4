use Rattle.std.proofs.lemmas.Result.{err_from_is_err_and}
use Rattle.std.proofs.Common.{ℕ, List}
use Rattle.std.proofs.lemmas.Option.{MatchOption-at_some}
use Rattle.ql_value.specs.declared.value.Value.{Value}
use Rattle.ql_exec.specs.declared.effect.Payload.{Payload}
use Rattle.ql_effect_lines.specs.declared.setting.Setting.{Setting}
use Rattle.ql_effect_lines.specs.EffectLine.{CallAt, EmitAt, IsSetting}
use Rattle.ql_effect_lines.proofs.Lines.{call_behind, emit_behind, setting_behind}
use Rattle.ql_effect_lines.proofs.Options.{unread}
use Rattle.ql_effect_lines.proofs.effect_line.read_line.Goals as goal

pub returns-in_default-2 : goal.returns-in_default-2
returns-in_default-2 c = λ e p.
    let rest = c.in-Some.rest.now in
    unread c.in_ok-args.field-0 ((args : List Value) (answer : Value) (r : List ℕ) → CallAt args answer rest r → ⊥) (λ x. CallAt x.0 x.1 rest x.2.now) c.in_ok-args.ensures c.in_default-2.not-Some
    e.args e.answer p.past_answer (call_behind c.args.text.now c.args.id e p c.in-Some.object.now c.in-Some.op.now rest c.in-Some.ensures.2)

pub returns-in_default-3 : goal.returns-in_default-3
returns-in_default-3 c = λ e p.
    let rest = c.in-Some.rest.now in
    let remaining = c.in-Some-2.rest.now in
    let call = MatchOption-at_some ((args : List Value) (answer : Value) (r : List ℕ) → CallAt args answer rest r → ⊥) (λ x. CallAt x.0 x.1 rest x.2.now) (c.in-Some-2.args, c.in-Some-2.answer, c.in-Some-2.rest) c.in-Some-2.is c.in_ok-args.ensures in
    unread c.in_ok-payload.field-0 ((payload : Payload) (r : List ℕ) → EmitAt payload remaining r → ⊥) (λ x. EmitAt x.0 remaining x.1.now) c.in_ok-payload.ensures c.in_default-3.not-Some
    e.payload p.past_payload (emit_behind c.args.text.now c.args.id e p c.in-Some.object.now c.in-Some.op.now rest c.in-Some.ensures.2 c.in-Some-2.args c.in-Some-2.answer remaining call)

pub returns-in_default-4 : goal.returns-in_default-4
returns-in_default-4 c = λ e p.
    let rest = c.in-Some.rest.now in
    let remaining = c.in-Some-2.rest.now in
    let last = c.in-Some-3.rest.now in
    let call = MatchOption-at_some ((args : List Value) (answer : Value) (r : List ℕ) → CallAt args answer rest r → ⊥) (λ x. CallAt x.0 x.1 rest x.2.now) (c.in-Some-2.args, c.in-Some-2.answer, c.in-Some-2.rest) c.in-Some-2.is c.in_ok-args.ensures in
    let emit = MatchOption-at_some ((payload : Payload) (r : List ℕ) → EmitAt payload remaining r → ⊥) (λ x. EmitAt x.0 remaining x.1.now) (c.in-Some-3.payload, c.in-Some-3.rest) c.in-Some-3.is c.in_ok-payload.ensures in
    unread c.in_ok-setting.field-0 ((s : Setting) → IsSetting last s → ⊥) (λ s. IsSetting last s) c.in_ok-setting.ensures c.in_default-4.not-Some
    e.setting (setting_behind c.args.text.now c.args.id e p c.in-Some.object.now c.in-Some.op.now rest c.in-Some.ensures.2 c.in-Some-2.args c.in-Some-2.answer remaining call c.in-Some-3.payload last emit)

pub returns-in_err-args : goal.returns-in_err-args
returns-in_err-args c = let p = err_from_is_err_and c.from_residual.result c.from_residual.ensures.1 in rw p.1 tt

pub returns-in_err-payload : goal.returns-in_err-payload
returns-in_err-payload c = let p = err_from_is_err_and c.from_residual-in_err-payload.result c.from_residual-in_err-payload.ensures.1 in rw p.1 tt

pub returns-in_err-setting : goal.returns-in_err-setting
returns-in_err-setting c = let p = err_from_is_err_and c.from_residual-in_err-setting.result c.from_residual-in_err-setting.ensures.1 in rw p.1 tt

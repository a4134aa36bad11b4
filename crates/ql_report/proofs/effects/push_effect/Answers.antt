use Rattle.std.proofs.lemmas.Result.{err_from_is_err_and}
use Rattle.std.proofs.Common.{◌++◌, ◌∷◌, [], List, ℕ, codes, decimal, map, ap, ◌∙◌}
use Rattle.ql_lines.specs.Fields.{Fields}
use Rattle.ql_lines.specs.Texts.{spaced_fields}
use Rattle.ql_typing.specs.Names.{op_name}
use Rattle.ql_value.specs.Spelling.{value_text}
use Rattle.ql_report.specs.EffectTexts.{member_text, object_name, payload_text, values_text}
use Rattle.ql_report.proofs.Printing.{effect_pieces, on_ok}
use Rattle.ql_report.proofs.effects.push_effect.Goals as goal

pub returns-clause-text : goal.returns-clause-text
returns-clause-text c =
    let p = c.args.t.now.program in
    let e = c.args.effect.now in
    let heading : Fields = decimal c.args.id.0 ∷ object_name c.args.objects.now e.object.0 ∷ op_name p e.op.0 ∷ [] in
    let call : Fields = values_text e.args ∷ codes "=" ∷ value_text e.answer ∷ [] in
    let payload = payload_text e.payload in
    let session : Fields = codes "session" ∷ decimal e.session.0 ∷ codes "txn" ∷ member_text p e.member ∷ codes "stamp" ∷ decimal e.stamp ∷ codes "vis" ∷ [] in
    let seen : Fields = map decimal e.seen in
    let called = c.in_ok-push_call.ensures.text ∙ ap (λ r. r ++ spaced_fields call) c.in_ok-push_heading.ensures in
    let emitted = c.in_ok-push_payload.ensures.text ∙ ap (λ r. r ++ payload) (c.in_ok-push_bytes.ensures.ok ∙ ap (λ r. r ++ codes " emit ") called) in
    let of_session = c.in_ok-push_session.ensures ∙ ap (λ r. r ++ spaced_fields session) emitted in
    let listed = c.in_ok-push_each_id.ensures ∙ ap (λ (ids : List ℕ). c.push_session.new.out.items ++ spaced_fields (map decimal ids)) c.items.ensures.same in
    let before = listed ∙ ap (λ r. r ++ spaced_fields seen) of_session in
    on_ok c.push_bytes-2.result (λ w. w ∙ ap (λ r. r ++ codes "\n") before ∙ effect_pieces c.args.out.now.items (codes "effect") payload heading call session seen) c.push_bytes-2.ensures.ok

pub returns-clause-values : goal.returns-clause-values
returns-clause-values c = on_ok c.push_bytes-2.result
    (λ e. record { args = c.in_ok-push_call.ensures.args; answer = c.in_ok-push_call.ensures.answer; payload = c.in_ok-push_payload.ensures.values }) c.push_bytes-2.ensures.ok

pub returns-in_err-push_bytes-clause-text : goal.returns-in_err-push_bytes-clause-text
returns-in_err-push_bytes-clause-text c = let p = err_from_is_err_and c.from_residual-in_err-push_bytes.result c.from_residual-in_err-push_bytes.ensures.1 in rw p.1 tt

pub returns-in_err-push_bytes-clause-values : goal.returns-in_err-push_bytes-clause-values
returns-in_err-push_bytes-clause-values c = let p = err_from_is_err_and c.from_residual-in_err-push_bytes.result c.from_residual-in_err-push_bytes.ensures.1 in rw p.1 tt

pub returns-in_err-push_call-clause-text : goal.returns-in_err-push_call-clause-text
returns-in_err-push_call-clause-text c = let p = err_from_is_err_and c.from_residual-in_err-push_call.result c.from_residual-in_err-push_call.ensures.1 in rw p.1 tt

pub returns-in_err-push_call-clause-values : goal.returns-in_err-push_call-clause-values
returns-in_err-push_call-clause-values c = let p = err_from_is_err_and c.from_residual-in_err-push_call.result c.from_residual-in_err-push_call.ensures.1 in rw p.1 tt

pub returns-in_err-push_each_id-clause-text : goal.returns-in_err-push_each_id-clause-text
returns-in_err-push_each_id-clause-text c = let p = err_from_is_err_and c.from_residual-in_err-push_each_id.result c.from_residual-in_err-push_each_id.ensures.1 in rw p.1 tt

pub returns-in_err-push_each_id-clause-values : goal.returns-in_err-push_each_id-clause-values
returns-in_err-push_each_id-clause-values c = let p = err_from_is_err_and c.from_residual-in_err-push_each_id.result c.from_residual-in_err-push_each_id.ensures.1 in rw p.1 tt

pub returns-in_err-push_heading-clause-text : goal.returns-in_err-push_heading-clause-text
returns-in_err-push_heading-clause-text c = let p = err_from_is_err_and c.from_residual.result c.from_residual.ensures.1 in rw p.1 tt

pub returns-in_err-push_heading-clause-values : goal.returns-in_err-push_heading-clause-values
returns-in_err-push_heading-clause-values c = let p = err_from_is_err_and c.from_residual.result c.from_residual.ensures.1 in rw p.1 tt

pub returns-in_err-push_payload-clause-text : goal.returns-in_err-push_payload-clause-text
returns-in_err-push_payload-clause-text c = let p = err_from_is_err_and c.from_residual-in_err-push_payload.result c.from_residual-in_err-push_payload.ensures.1 in rw p.1 tt

pub returns-in_err-push_payload-clause-values : goal.returns-in_err-push_payload-clause-values
returns-in_err-push_payload-clause-values c = let p = err_from_is_err_and c.from_residual-in_err-push_payload.result c.from_residual-in_err-push_payload.ensures.1 in rw p.1 tt

pub returns-in_err-push_session-clause-text : goal.returns-in_err-push_session-clause-text
returns-in_err-push_session-clause-text c = let p = err_from_is_err_and c.from_residual-in_err-push_session.result c.from_residual-in_err-push_session.ensures.1 in rw p.1 tt

pub returns-in_err-push_session-clause-values : goal.returns-in_err-push_session-clause-values
returns-in_err-push_session-clause-values c = let p = err_from_is_err_and c.from_residual-in_err-push_session.result c.from_residual-in_err-push_session.ensures.1 in rw p.1 tt

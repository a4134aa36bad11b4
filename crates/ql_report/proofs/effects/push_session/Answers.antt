use Rattle.std.proofs.Common.{◌++◌, codes, decimal, ap, ◌∙◌}
use Rattle.ql_report.specs.EffectTexts.{member_text}
use Rattle.ql_report.proofs.Printing.{on_ok, session_pieces}
use Rattle.ql_report.proofs.effects.push_session.Goals as goal

pub returns : goal.returns
returns c =
    let session = decimal c.args.effect.now.session.0 in
    let txn = member_text c.args.t.now.program c.args.effect.now.member in
    let stamp = decimal c.args.effect.now.stamp in
    let named = c.in_ok-push_member.ensures ∙ ap (λ r. r ++ txn) (c.in_ok-push_bytes.ensures.ok ∙ ap (λ r. r ++ codes " txn ") c.in_ok-push_decimal.ensures) in
    let before = c.in_ok-push_decimal-2.ensures ∙ ap (λ r. r ++ (codes " stamp " ++ stamp)) named in
    on_ok c.push_bytes-2.result (λ e. e ∙ ap (λ r. r ++ codes " vis") before ∙ session_pieces c.args.out.now.items session txn stamp) c.push_bytes-2.ensures.ok

use Rattle.std.proofs.Common.{◌++◌, codes, ap, ◌∙◌}
use Rattle.ql_value.specs.Spelling.{value_text}
use Rattle.ql_report.specs.EffectTexts.{values_text}
use Rattle.ql_report.proofs.Printing.{call_pieces, on_ok}
use Rattle.ql_report.proofs.effects.push_call.Goals as goal

pub returns-clause-text : goal.returns-clause-text
returns-clause-text c =
    let args = values_text c.args.args.now in
    let answer = value_text c.args.answer.now in
    let before = c.in_ok-push_bytes-2.ensures.ok ∙ ap (λ r. r ++ codes " = ") (c.in_ok-push_values.ensures.text ∙ ap (λ r. r ++ args) c.in_ok-push_bytes.ensures.ok) in
    on_ok c.print_value.result (λ e. e ∙ ap (λ r. r ++ answer) before ∙ call_pieces c.args.out.now.items args answer) c.print_value.ensures.ok

pub returns-clause-args : goal.returns-clause-args
returns-clause-args c = on_ok c.print_value.result (λ e. c.in_ok-push_values.ensures.values) c.print_value.ensures.ok

pub returns-clause-answer : goal.returns-clause-answer
returns-clause-answer c = c.print_value.ensures.value

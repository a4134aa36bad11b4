use Rattle.std.proofs.Common.{◌++◌, ap, subst, ◌∙◌, arith}
use Rattle.std.proofs.lemmas.Result.{on_ok_weaker}
use Rattle.ql_lines.specs.Texts.{joined}
use Rattle.ql_report.specs.ReplyTexts.{reply_fields}
use Rattle.serde_json.specs.Data.{Data, depth}
use Rattle.serde_json.specs.Written.{compact_text, has_float}
use Rattle.ql_report.specs.JsonReading.{ReadsBack}
use Rattle.ql_report.proofs.Depths.{texts_nest}
use Rattle.ql_report.proofs.Floats.{texts_none}
use Rattle.ql_report.proofs.json_printing.push_replies.Goals as goal

pub push_json-requires-clause-none : goal.push_json-requires-clause-none
push_json-requires-clause-none c = ap has_float c.in_ok-json.ensures ∙ texts_none (λ r. joined (reply_fields c.args.x.now r)) c.args.replies.now

pub push_json-requires-clause-nests : goal.push_json-requires-clause-nests
push_json-requires-clause-nests c =
    let nests = texts_nest (λ r. joined (reply_fields c.args.x.now r)) c.args.replies.now in
    let same = ap depth c.in_ok-json.ensures in
    omega (arith, nests, same)

pub returns-clause-text : goal.returns-clause-text
returns-clause-text c = on_ok_weaker c.push_json.result (λ added. added ∙ ap (λ (d : Data). c.args.out.now.items ++ compact_text d) c.in_ok-json.ensures) c.push_json.ensures.text

pub returns-clause-again : goal.returns-clause-again
returns-clause-again c = on_ok_weaker c.push_json.result (λ back. subst ReadsBack c.in_ok-json.ensures back) c.push_json.ensures.again

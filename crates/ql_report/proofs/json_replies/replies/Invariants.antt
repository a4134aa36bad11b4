use Rattle.std.proofs.Common.{◌≡◌, map, take}
use Rattle.ql_lines.specs.Texts.{joined}
use Rattle.ql_report.specs.ReplyTexts.{reply_fields}
use Rattle.serde_json.specs.View.{view}
use Rattle.ql_report.specs.JsonValues.{text_data}
use Rattle.ql_report.proofs.json_replies.replies.Given as goal

abbrev pub invariant-loop-k : goal.invariant-loop-k
invariant-loop-k l = map view l.list.items ≡ map (λ r. text_data (joined (reply_fields l.x r))) (take l.k l.replies)

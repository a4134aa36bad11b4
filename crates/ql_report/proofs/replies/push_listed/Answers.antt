use Rattle.std.proofs.Common.{◌++◌, decimal, map, ap, ◌∙◌}
use Rattle.ql_lines.specs.Texts.{spaced_fields}
use Rattle.ql_report.proofs.Printing.{on_ok, word_and_fields}
use Rattle.ql_report.proofs.replies.push_listed.Goals as goal

pub returns : goal.returns
returns c =
    let ids = map decimal c.args.ids.now in
    on_ok c.push_each_id.result (λ e. e ∙ ap (λ r. r ++ spaced_fields ids) c.in_ok-push_bytes.ensures.ok ∙ word_and_fields c.args.out.now.items c.args.word.now ids) c.push_each_id.ensures

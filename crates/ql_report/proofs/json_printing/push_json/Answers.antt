use Rattle.std.proofs.Common.{ap, ◌++◌, ◌∙◌, List, ℕ}
use Rattle.std.proofs.lemmas.Result.{on_ok_weaker}
use Rattle.ql_report.proofs.Texts.{printed_reads_back}
use Rattle.serde_json.specs.View.{view}
use Rattle.ql_report.proofs.json_printing.push_json.Goals as goal

pub returns-clause-text : goal.returns-clause-text
returns-clause-text c =
    on_ok_weaker c.push_bytes.result (λ added. added ∙ ap (λ (t : List ℕ). c.args.out.now.items ++ t) (c.deref.ensures.value ∙ c.in_ok-text.ensures.text c.requires.none)) c.push_bytes.ensures.ok

pub returns-clause-again : goal.returns-clause-again
returns-clause-again c =
    on_ok_weaker c.push_bytes.result (λ added. printed_reads_back c.in_ok-text.text.items (view c.args.json.now) c.in_ok-text.ensures.order c.requires.none c.requires.nests (c.in_ok-text.ensures.reads_back c.requires.nests)) c.push_bytes.ensures.ok

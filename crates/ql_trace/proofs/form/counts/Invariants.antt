use Rattle.std.proofs.Common.{◌≡◌, map}
use Rattle.serde_json.specs.View.{members_view}
use Rattle.ql_trace.specs.FormTexts.{count_text}
use Rattle.ql_trace.specs.Forms.{counts_in}
use Rattle.ql_trace.specs.Json.{members_in}
use Rattle.ql_trace.proofs.Each.{with_rest}
use Rattle.ql_trace.proofs.form.counts.Given as goal

abbrev pub invariant-loop-origin : goal.invariant-loop-origin
invariant-loop-origin l = counts_in (members_in (members_view l.members.entries)) ≡ with_rest (map count_text l.counts.items) (counts_in (members_in (members_view l.origin-iterator)))

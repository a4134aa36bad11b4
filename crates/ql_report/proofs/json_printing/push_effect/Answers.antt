use Rattle.std.proofs.Common.{◌++◌, List, ℕ, nat_lt, ap, subst, ◌∙◌, append_assoc, arith}
use Rattle.std.proofs.lemmas.Result.{on_ok_weaker}
use Rattle.serde_json.specs.Data.{Data, depth}
use Rattle.serde_json.specs.Written.{comma_if, compact_text, has_float}
use Rattle.ql_report.specs.JsonRuns.{effect_data}
use Rattle.ql_report.specs.JsonReading.{ReadsBack}
use Rattle.ql_report.proofs.Depths.{effect_nests}
use Rattle.ql_report.proofs.Floats.{effect_none}
use Rattle.ql_report.proofs.json_printing.push_effect.Goals as goal

pub push_json-requires-clause-none : goal.push_json-requires-clause-none
push_json-requires-clause-none c = ap has_float c.in_ok-json.ensures ∙ effect_none c.args.t.now.program c.args.objects.now c.args.id.0 c.args.e.now

pub push_json-requires-clause-nests : goal.push_json-requires-clause-nests
push_json-requires-clause-nests c =
    let nests = effect_nests c.args.t.now.program c.args.objects.now c.args.id.0 c.args.e.now in
    let same = ap depth c.in_ok-json.ensures in
    omega (arith, nests, same)

pub returns-clause-text : goal.returns-clause-text
returns-clause-text c =
    let comma = comma_if (nat_lt 1 c.args.id.0) in
    let one = compact_text (effect_data c.args.t.now.program c.args.objects.now c.args.id.0 c.args.e.now) in
    on_ok_weaker c.push_json.result (λ added.
    added ∙ ap (λ (d : Data). c.push_comma.new.out.items ++ compact_text d) c.in_ok-json.ensures
    ∙ ap (λ (t : List ℕ). t ++ one) c.in_ok-push_comma.ensures ∙ append_assoc c.args.out.now.items comma one) c.push_json.ensures.text

pub returns-clause-again : goal.returns-clause-again
returns-clause-again c = on_ok_weaker c.push_json.result (λ back. subst ReadsBack c.in_ok-json.ensures back) c.push_json.ensures.again

use Rattle.std.proofs.Common.{map, subst, sym}
use Rattle.serde_json.specs.View.{view}
use Rattle.ql_warnings.specs.Warnings.{AreFindings}
use Rattle.ql_explanation.proofs.Judged.{explained}
use Rattle.ql_explain.proofs.Floats.{targets_none}
use Rattle.ql_commands.proofs.SourceReplies.{bad_said}
use Rattle.ql_explain.specs.JsonExplanations.{ExplainJsonSays, IsJsonExplanation}
use Rattle.ql_explain.proofs.json_explanation.explain_json.Goals as goal

pub line-requires : goal.line-requires
line-requires c = targets_none c.in_ok-lexed.lexed c.in-Ok.typed.program _ (map view c.in_ok-targets.targets.items) c.in_ok-targets.ensures

pub returns : goal.returns
returns c =
    let p = c.in-Ok.typed.program in
    explained IsJsonExplanation c.args.source.now c.in_ok-text.text.items p c.answer_of.result c.in-Ok.ensures.source c.answer_of.ensures
    (c.deref.result.now, subst (AreFindings p) (sym c.deref.ensures.value) c.in_ok-findings.ensures, map view c.in_ok-targets.targets.items, rw (← c.in_ok-lexed.ensures) c.in_ok-targets.ensures, c.in_ok-text.ensures)

pub returns-in-Err : goal.returns-in-Err
returns-in-Err c =
    bad_said (ExplainJsonSays c.args.source.now) c.bad_source.result c.args.source.now c.in-Err.fault (λ text bad. bad) c.in-Err.ensures.fault c.in-Err.ensures.none c.bad_source.ensures.status c.bad_source.ensures.text

use Rattle.std.proofs.Common.{subst, sym}
use Rattle.ql_commands.proofs.SourceReplies.{bad_said}
use Rattle.ql_warnings.specs.Warnings.{AreFindings}
use Rattle.ql_explanation.specs.Explanation.{ExplainSays, IsExplanation}
use Rattle.ql_explanation.proofs.Judged.{explained}
use Rattle.ql_explanation.proofs.explanation.explain.Goals as goal

pub returns : goal.returns
returns c =
    let p = c.in-Ok.typed.program in
    explained IsExplanation c.args.source.now c.in_ok-text.text.items p c.answer_of.result c.in-Ok.ensures.source c.answer_of.ensures
    (c.deref.result.now, subst (AreFindings p) (sym c.deref.ensures.value) c.in_ok-findings.ensures, rw (← c.in_ok-lexed.ensures) c.in_ok-text.ensures)

pub returns-in-Err : goal.returns-in-Err
returns-in-Err c =
    bad_said (ExplainSays c.args.source.now) c.bad_source.result c.args.source.now c.in-Err.fault (λ text bad. bad) c.in-Err.ensures.fault c.in-Err.ensures.none c.bad_source.ensures.status c.bad_source.ensures.text

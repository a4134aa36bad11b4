use Rattle.std.proofs.Common.{subst}
use Rattle.ql_classify.specs.Targets.{goals_at}
use Rattle.ql_classify.specs.Least.{AreLevelsOf}
use Rattle.ql_lang.specs.declared.program.Program.{Program}
use Rattle.ql_commands.proofs.SourceReplies.{bad_said}
use Rattle.ql_why.specs.Why.{InTurn, ReportsTarget, WhySays}
use Rattle.ql_why.proofs.explanation.classify_with_reasons.Goals as goal

pub returns-in-Ok-classify : goal.returns-in-Ok-classify
returns-in-Ok-classify c =
    let levels = c.in-Ok-classify.classified.levels in
    let text = c.in_ok-levels_with_reasons-in-Ok-classify.field-0.items in
    let told = c.in_ok-levels_with_reasons-in-Ok-classify.ensures in (
      c.in-Ok.typed.program,
      c.in-Ok.ensures.source,
      levels,
      subst (λ (q : Program). AreLevelsOf q levels) c.in-Ok-classify.ensures.same told.levels,
      subst (λ (q : Program). InTurn (ReportsTarget q) (goals_at levels) text) c.in-Ok-classify.ensures.same told.text,
    )

pub returns-in-Err : goal.returns-in-Err
returns-in-Err c =
    bad_said (WhySays c.args.source.now) c.bad_source.result c.args.source.now c.in-Err.fault (λ text bad. bad) c.in-Err.ensures.fault c.in-Err.ensures.none c.bad_source.ensures.status c.bad_source.ensures.text

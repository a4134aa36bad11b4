use Rattle.std.proofs.Common.{List, ap, subst, ◌∙◌}
use Rattle.std.proofs.lemmas.Result.{IfOk-weaker}
use Rattle.ql_exec.specs.declared.effect.Effect.{Effect}
use Rattle.ql_machine.specs.declared.reply.Reply.{Reply}
use Rattle.ql_running.specs.Runs.{PrintsRun}
use Rattle.ql_schedule.specs.declared.schedule.Schedule.{Schedule}
use Rattle.ql_generated.specs.Summaries.{IsSummary, summary_text}
use Rattle.ql_generated.proofs.soaking.summary_of_run.Goals as goal

pub returns : goal.returns
returns c =
    let p = c.args.t.now.program in
    let levels = c.args.levels.now in
    let run = c.in_ok-run.run' in
    let replies = run.replies.items in
    IfOk-weaker c.print_summary.result _ _
    (λ text printed. λ source is_source.
    let prints : PrintsRun IsSummary p levels c.in_ok-schedule.schedule text.items = record {
      replies = replies;
      last = run.store.machine;
      run = c.in_ok-run.ensures.run;
      printed = printed ∙ ap (λ (rs : List Reply). summary_text rs c.execution.result.now) c.as_slice.ensures.value ∙ ap (λ (x : List Effect). summary_text replies x) c.execution.ensures;
      sound = c.in_ok-run.ensures.sound;
    } in
    record {
      program = p;
      levels = levels;
      is_source = is_source;
      are_least = c.requires.levels;
      prints = subst (λ (s : Schedule). PrintsRun IsSummary p levels s text.items) c.in_ok-schedule.ensures.stated prints;
    })
    c.print_summary.ensures

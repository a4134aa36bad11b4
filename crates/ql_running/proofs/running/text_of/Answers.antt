use Rattle.std.proofs.Common.{List, ℕ, length, sym, subst}
use Rattle.std.proofs.lemmas.Result.{err_from_is_err_and, IfOk-weaker}
use Rattle.ql_exec.specs.declared.effect.Effect.{Effect}
use Rattle.ql_report.specs.EffectTexts.{AreNamed}
use Rattle.ql_report.specs.ReplyTexts.{AreAnswered}
use Rattle.ql_running.specs.Forms.{format_of}
use Rattle.ql_running.proofs.running.text_of.Goals as goal

pub print_in-requires-clause-named : goal.print_in-requires-clause-named
print_in-requires-clause-named c =
    let p = c.args.input.typed.program in
    let run = c.in_ok-run.run' in
    subst (λ (x : List Effect). AreNamed p (length run.objects) x) (sym c.execution.ensures)
    (subst (λ (os : List (List ℕ)). AreNamed p (length os) run.store.machine.effects) (sym c.in_ok-run.ensures.objects) c.in_ok-run.ensures.named)

pub print_in-requires-clause-answered : goal.print_in-requires-clause-answered
print_in-requires-clause-answered c =
    let run = c.in_ok-run.run' in
    subst (λ (x : List Effect). AreAnswered x run.replies.items) (sym c.execution.ensures) c.in_ok-run.ensures.answered

pub returns : goal.returns
returns c =
    let p = c.args.input.typed.program in
    let levels = c.args.input.levels in
    let run = c.in_ok-run.run' in
    let replies = run.replies.items in
    IfOk-weaker c.print_in.result _ _
    (λ text printed. λ source file is_source is_schedule. record {
      program = p;
      schedule = c.args.input.schedule;
      levels = levels;
      is_source = is_source;
      is_schedule = is_schedule;
      are_least = c.requires.levels;
      prints = record {
        replies = replies;
        last = run.store.machine;
        run = c.in_ok-run.ensures.run;
        printed =
            subst (λ (x : List Effect). format_of c.args.form p c.args.input.schedule.objects levels replies x text.items) c.execution.ensures
            (subst (λ (os : List (List ℕ)). format_of c.args.form p os levels replies c.execution.result.now text.items) c.in_ok-run.ensures.objects printed);
        sound = c.in_ok-run.ensures.sound;
      };
    })
    c.print_in.ensures

pub returns-in_err-run : goal.returns-in_err-run
returns-in_err-run c = let p = err_from_is_err_and c.from_residual.result c.from_residual.ensures.1 in rw p.1 tt

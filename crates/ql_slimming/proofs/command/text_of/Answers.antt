use Rattle.std.proofs.Common.{◌≡◌, List, ℕ, All, length, sym, subst, ap, ◌∙◌, arith}
use Rattle.std.proofs.lemmas.Result.{IfOk-weaker}
use Rattle.ql_base.specs.declared.ids.TypeId.{TypeId}
use Rattle.ql_runs.specs.Keeping.{FitsSchedule}
use Rattle.ql_slimming.specs.Answers.{IsSlimText}
use Rattle.ql_slimming.proofs.command.text_of.Goals as goal

pub print_slim-requires-clause-few : goal.print_slim-requires-clause-few
print_slim-requires-clause-few c =
    let kinds : c.deref.result.now ≡ c.args.input.schedule.kinds = c.deref.ensures.value ∙ c.in_ok-kinds.ensures.items ∙ c.items.ensures in
    let count = ap (λ (ts : List TypeId). length ts) kinds in
    let typed = c.requires.schedule.typed in
    let few = c.requires.schedule.few_objects in
    omega (arith, count, typed, few)

pub print_slim-requires-clause-typed : goal.print_slim-requires-clause-typed
print_slim-requires-clause-typed c =
    let kinds : c.deref.result.now ≡ c.args.input.schedule.kinds = c.deref.ensures.value ∙ c.in_ok-kinds.ensures.items ∙ c.items.ensures in
    ap (λ (ts : List TypeId). length ts) kinds ∙ c.requires.schedule.typed ∙ ap (λ (os : List (List ℕ)). length os) (sym c.in_ok-run.ensures.objects)

pub print_slim-requires-clause-fits : goal.print_slim-requires-clause-fits
print_slim-requires-clause-fits c =
    let p = c.args.input.typed.program in
    let x = c.in_ok-run.run'.store.machine.effects in
    let kinds : c.deref.result.now ≡ c.args.input.schedule.kinds = c.deref.ensures.value ∙ c.in_ok-kinds.ensures.items ∙ c.items.ensures in
    subst (λ (ts : List TypeId). All (FitsSchedule p (length c.in_ok-run.run'.objects) ts) x) (sym kinds)
    (subst (λ (os : List (List ℕ)). All (FitsSchedule p (length os) c.args.input.schedule.kinds) x) (sym c.in_ok-run.ensures.objects) c.in_ok-run.ensures.fits)

pub returns : goal.returns
returns c =
    let p = c.args.input.typed.program in
    let run = c.in_ok-run.run' in
    let s = run.store.machine in
    let schedule = c.args.input.schedule in
    let kinds : c.deref.result.now ≡ schedule.kinds = c.deref.ensures.value ∙ c.in_ok-kinds.ensures.items ∙ c.items.ensures in
    IfOk-weaker c.print_slim.result _ _
    (λ text told. λ source file is_source is_schedule. record {
      program = p;
      schedule = schedule;
      levels = c.args.input.levels;
      replies = run.replies.items;
      last = s;
      is_source = is_source;
      is_schedule = is_schedule;
      are_least = c.requires.levels;
      run = c.in_ok-run.ensures.run;
      sound = c.in_ok-run.ensures.sound;
      printed = subst (λ (os : List (List ℕ)). IsSlimText p os schedule.kinds s text.items) c.in_ok-run.ensures.objects (subst (λ (ts : List TypeId). IsSlimText p run.objects ts s text.items) kinds told);
    })
    c.print_slim.ensures

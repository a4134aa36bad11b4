use Rattle.std.proofs.lemmas.Result.{err_from_is_err_and}
use Rattle.std.proofs.Common.{refl, sym, ap}
use Rattle.ql_running.specs.Stores.{rules_of}
use Rattle.ql_machine.specs.Runs.{IsRun}
use Rattle.ql_running.proofs.OfRuns.{run-answers, run-named}
use Rattle.ql_store.specs.Levels.{promises_of}
use Rattle.ql_running.proofs.store_run.sound_run.Goals as goal

pub returns-clause-run : goal.returns-clause-run
returns-clause-run c = c.in_ok-run.ensures.run (rules_of c.args.t.now.program c.args.levels.now) (ap promises_of (sym c.in_ok-same.ensures)) refl refl

pub returns-clause-sound : goal.returns-clause-sound
returns-clause-sound c =
    let p = c.args.t.now.program in
    let run = c.in_ok-run.run' in
    let rules = rules_of p c.args.levels.now in
    let steps : IsRun rules c.args.schedule.replicas c.args.schedule.events run.replies.items run.store.machine = c.in_ok-run.ensures.run rules (ap promises_of (sym c.in_ok-same.ensures)) refl refl in
    c.runs_are_sound.ensures p c.args.levels.now c.args.schedule run.replies.items run.store.machine c.requires.levels c.requires.schedule steps

pub returns-clause-named : goal.returns-clause-named
returns-clause-named c =
    let p = c.args.t.now.program in
    let run = c.in_ok-run.run' in
    let rules = rules_of p c.args.levels.now in
    let steps : IsRun rules c.args.schedule.replicas c.args.schedule.events run.replies.items run.store.machine = c.in_ok-run.ensures.run rules (ap promises_of (sym c.in_ok-same.ensures)) refl refl in
    run-named p rules c.args.schedule run.replies.items run.store.machine c.requires.schedule steps c.in_ok-run.ensures.fits

pub returns-clause-answered : goal.returns-clause-answered
returns-clause-answered c =
    let run = c.in_ok-run.run' in
    let rules = rules_of c.args.t.now.program c.args.levels.now in
    let steps : IsRun rules c.args.schedule.replicas c.args.schedule.events run.replies.items run.store.machine = c.in_ok-run.ensures.run rules (ap promises_of (sym c.in_ok-same.ensures)) refl refl in
    run-answers rules c.args.schedule.replicas c.args.schedule.events run.replies.items run.store.machine steps

pub returns-in_err-run-clause-answered : goal.returns-in_err-run-clause-answered
returns-in_err-run-clause-answered c = let p = err_from_is_err_and c.from_residual-in_err-run.result c.from_residual-in_err-run.ensures.1 in rw p.1 tt

pub returns-in_err-run-clause-fits : goal.returns-in_err-run-clause-fits
returns-in_err-run-clause-fits c = let p = err_from_is_err_and c.from_residual-in_err-run.result c.from_residual-in_err-run.ensures.1 in rw p.1 tt

pub returns-in_err-run-clause-named : goal.returns-in_err-run-clause-named
returns-in_err-run-clause-named c = let p = err_from_is_err_and c.from_residual-in_err-run.result c.from_residual-in_err-run.ensures.1 in rw p.1 tt

pub returns-in_err-run-clause-objects : goal.returns-in_err-run-clause-objects
returns-in_err-run-clause-objects c = let p = err_from_is_err_and c.from_residual-in_err-run.result c.from_residual-in_err-run.ensures.1 in rw p.1 tt

pub returns-in_err-run-clause-replicas : goal.returns-in_err-run-clause-replicas
returns-in_err-run-clause-replicas c = let p = err_from_is_err_and c.from_residual-in_err-run.result c.from_residual-in_err-run.ensures.1 in rw p.1 tt

pub returns-in_err-run-clause-run : goal.returns-in_err-run-clause-run
returns-in_err-run-clause-run c = let p = err_from_is_err_and c.from_residual-in_err-run.result c.from_residual-in_err-run.ensures.1 in rw p.1 tt

pub returns-in_err-run-clause-sound : goal.returns-in_err-run-clause-sound
returns-in_err-run-clause-sound c = let p = err_from_is_err_and c.from_residual-in_err-run.result c.from_residual-in_err-run.ensures.1 in rw p.1 tt

pub returns-in_err-same-clause-answered : goal.returns-in_err-same-clause-answered
returns-in_err-same-clause-answered c = let p = err_from_is_err_and c.from_residual.result c.from_residual.ensures.1 in rw p.1 tt

pub returns-in_err-same-clause-fits : goal.returns-in_err-same-clause-fits
returns-in_err-same-clause-fits c = let p = err_from_is_err_and c.from_residual.result c.from_residual.ensures.1 in rw p.1 tt

pub returns-in_err-same-clause-named : goal.returns-in_err-same-clause-named
returns-in_err-same-clause-named c = let p = err_from_is_err_and c.from_residual.result c.from_residual.ensures.1 in rw p.1 tt

pub returns-in_err-same-clause-objects : goal.returns-in_err-same-clause-objects
returns-in_err-same-clause-objects c = let p = err_from_is_err_and c.from_residual.result c.from_residual.ensures.1 in rw p.1 tt

pub returns-in_err-same-clause-replicas : goal.returns-in_err-same-clause-replicas
returns-in_err-same-clause-replicas c = let p = err_from_is_err_and c.from_residual.result c.from_residual.ensures.1 in rw p.1 tt

pub returns-in_err-same-clause-run : goal.returns-in_err-same-clause-run
returns-in_err-same-clause-run c = let p = err_from_is_err_and c.from_residual.result c.from_residual.ensures.1 in rw p.1 tt

pub returns-in_err-same-clause-sound : goal.returns-in_err-same-clause-sound
returns-in_err-same-clause-sound c = let p = err_from_is_err_and c.from_residual.result c.from_residual.ensures.1 in rw p.1 tt

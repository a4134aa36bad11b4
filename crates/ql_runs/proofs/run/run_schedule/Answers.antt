use Rattle.std.proofs.lemmas.Result.{err_from_is_err_and}
use Rattle.std.proofs.Common.{◌≡◌, ◌∙◌, ap, sym}
use Rattle.ql_store.specs.Levels.{promises_of}
use Rattle.ql_store.specs.State.{StoreState}
use Rattle.ql_runs.proofs.run.run_schedule.Goals as goal

pub returns-in-Ok-clause-run : goal.returns-in-Ok-clause-run
returns-in-Ok-clause-run g c =
    λ rules promises uses answer. c.in-Ok.ensures.run rules (promises ∙ ap (λ (v : StoreState). promises_of v.levels) (sym c.in_ok-store.ensures)) uses answer

pub returns-in_err-store-clause-answered : goal.returns-in_err-store-clause-answered
returns-in_err-store-clause-answered g c = let p = err_from_is_err_and c.from_residual.result c.from_residual.ensures.1 in rw p.1 tt

pub returns-in_err-store-clause-fits : goal.returns-in_err-store-clause-fits
returns-in_err-store-clause-fits g c = let p = err_from_is_err_and c.from_residual.result c.from_residual.ensures.1 in rw p.1 tt

pub returns-in_err-store-clause-levels : goal.returns-in_err-store-clause-levels
returns-in_err-store-clause-levels g c = let p = err_from_is_err_and c.from_residual.result c.from_residual.ensures.1 in rw p.1 tt

pub returns-in_err-store-clause-objects : goal.returns-in_err-store-clause-objects
returns-in_err-store-clause-objects g c = let p = err_from_is_err_and c.from_residual.result c.from_residual.ensures.1 in rw p.1 tt

pub returns-in_err-store-clause-replicas : goal.returns-in_err-store-clause-replicas
returns-in_err-store-clause-replicas g c = let p = err_from_is_err_and c.from_residual.result c.from_residual.ensures.1 in rw p.1 tt

pub returns-in_err-store-clause-run : goal.returns-in_err-store-clause-run
returns-in_err-store-clause-run g c = let p = err_from_is_err_and c.from_residual.result c.from_residual.ensures.1 in rw p.1 tt

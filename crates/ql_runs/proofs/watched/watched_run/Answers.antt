use Rattle.std.proofs.lemmas.Result.{err_from_is_err_and}
use Rattle.std.proofs.Common.{◌≡◌, ◌∙◌, ap, sym}
use Rattle.ql_store.specs.Levels.{promises_of}
use Rattle.ql_store.specs.State.{StoreState}
use Rattle.ql_runs.proofs.watched.watched_run.Goals as goal

pub returns-in-Ok-clause-watched : goal.returns-in-Ok-clause-watched
returns-in-Ok-clause-watched g c =
    λ rules promises uses answer. c.in-Ok.ensures.watched rules (promises ∙ ap (λ (v : StoreState). promises_of v.levels) (sym c.in_ok-store.ensures)) uses answer

pub returns-in_err-store-clause-few : goal.returns-in_err-store-clause-few
returns-in_err-store-clause-few g c = let p = err_from_is_err_and c.from_residual.result c.from_residual.ensures.1 in rw p.1 tt

pub returns-in_err-store-clause-there : goal.returns-in_err-store-clause-there
returns-in_err-store-clause-there g c = let p = err_from_is_err_and c.from_residual.result c.from_residual.ensures.1 in rw p.1 tt

pub returns-in_err-store-clause-watched : goal.returns-in_err-store-clause-watched
returns-in_err-store-clause-watched g c = let p = err_from_is_err_and c.from_residual.result c.from_residual.ensures.1 in rw p.1 tt

use Rattle.std.proofs.lemmas.Result.{err_from_is_err_and}
use Rattle.std.proofs.Common.{List, ℕ, sym, subst, ◌+◌}
use Rattle.ql_slimming.proofs.Prefixes.{AreFirstViews, one_view}
use Rattle.ql_slimming.proofs.views.views_on.Goals as goal

pub loop-r-preserved : goal.loop-r-preserved
loop-r-preserved c =
    subst (λ (views : List (List ℕ)). AreFirstViews c.args.store.now.machine c.args.object (c.loop-r.r + 1) views) (sym c.in_ok-push.ensures.items)
    (one_view c.args.store.now.machine c.args.object c.loop-r.r c.loop-r.views.items c.in_ok-view_at.field-0 c.loop-r.invariant c.in_ok-view_at.ensures)

pub returns-in_err-push : goal.returns-in_err-push
returns-in_err-push c = let p = err_from_is_err_and c.from_residual-in_err-push.result c.from_residual-in_err-push.ensures.1 in rw p.1 tt

pub returns-in_err-view_at : goal.returns-in_err-view_at
returns-in_err-view_at c = let p = err_from_is_err_and c.from_residual-in_err-view_at.result c.from_residual-in_err-view_at.ensures.1 in rw p.1 tt

pub returns-in_err-views : goal.returns-in_err-views
returns-in_err-views c = let p = err_from_is_err_and c.from_residual.result c.from_residual.ensures.1 in rw p.1 tt

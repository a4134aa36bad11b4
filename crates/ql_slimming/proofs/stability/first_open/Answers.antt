use Rattle.std.proofs.Common.{◌+◌, ℕ, suc, sym, subst, add-one}
use Rattle.ql_base.specs.declared.ids.EffId.{EffId}
use Rattle.ql_slimming.specs.Stability.{IsFirstOpen}
use Rattle.ql_slimming.proofs.Prefixes.{first_next}
use Rattle.ql_slimming.proofs.stability.first_open.Goals as goal

pub loop-k-preserved : goal.loop-k-preserved
loop-k-preserved c =
    let x = c.args.x.now in
    let o = c.args.object in
    let views = c.args.views.now in
    let k = c.loop-k.k in
    let next : EffId = record { 0 = k + 1 } in
    subst (λ (n : ℕ). IsFirstOpen x o views n c.earlier_open-first.result) (sym (add-one k))
    (subst (IsFirstOpen x o views (suc k)) (sym c.earlier_open-first.ensures) (first_next x o views k c.loop-k.first next (add-one k) c.loop-k.invariant))

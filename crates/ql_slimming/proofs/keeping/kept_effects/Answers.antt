use Rattle.std.proofs.Common.{◌≡◌, ◌≤◌, ◌+◌, cond, ℕ, true, Bool, sym, subst, ap, ◌∙◌, arith}
use Rattle.ql_base.specs.IdLists.{with_id}
use Rattle.ql_machine.specs.Sets.{AreThose}
use Rattle.ql_slimming.specs.Ready.{is_kept_at}
use Rattle.ql_slimming.proofs.Prefixes.{kept_found, one_tested}
use Rattle.ql_slimming.proofs.keeping.kept_effects.Goals as goal

pub loop-k-preserved : goal.loop-k-preserved
loop-k-preserved c =
    let k = c.loop-k.k in
    let test : ℕ → Bool = is_kept_at c.args.x.now c.args.kept.now in
    let next = c.in_ok-include_if.ensures ∙ ap (λ (b : Bool). cond b (with_id c.loop-k.ids (k + 1)) c.loop-k.ids) c.is_kept.ensures in
    subst (AreThose (λ (a : ℕ). (1 ≤ a) × (a ≤ k + 1) × (test a ≡ true))) (sym next) (one_tested test k c.loop-k.ids c.loop-k.invariant)

pub returns : goal.returns
returns c =
    let past = c.loop-k-test.false in
    let count = c.len-k-end.ensures.length in
    kept_found c.args.x.now c.args.kept.now c.loop-k.ids c.loop-k.k (omega (arith, past, count)) c.loop-k.invariant

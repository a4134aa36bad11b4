use Rattle.std.proofs.Common.{◌≡◌, ◌≤◌, ◌+◌, ◌&&◌, cond, ℕ, true, Bool, sym, subst, ap, ◌∙◌, arith}
use Rattle.ql_base.specs.IdLists.{with_id}
use Rattle.ql_machine.specs.Sets.{AreThose}
use Rattle.ql_slimming.specs.Stability.{comes_earlier, is_on}
use Rattle.ql_slimming.proofs.Prefixes.{one_tested, stable_found}
use Rattle.ql_slimming.proofs.stability.stable_on.Goals as goal

pub loop-k-preserved : goal.loop-k-preserved
loop-k-preserved c =
    let x = c.args.x.now in
    let o = c.args.object in
    let k = c.loop-k.k in
    let test : ℕ → Bool = λ a. is_on x o a && comes_earlier x a c.first_open-first.result in
    let next = c.in_ok-include_if.ensures ∙ ap (λ (b : Bool). cond b (with_id c.loop-k.ids (k + 1)) c.loop-k.ids) c.is_stable.ensures in
    subst (AreThose (λ (a : ℕ). (1 ≤ a) × (a ≤ k + 1) × (test a ≡ true))) (sym next) (one_tested test k c.loop-k.ids c.loop-k.invariant)

pub returns : goal.returns
returns c = λ s same are.
    let past = c.loop-k-test.false in
    let count = c.len-k-end.ensures.length in
    stable_found s c.args.object c.args.views.now are c.args.x.now same c.first_open-first.result c.first_open-first.ensures c.loop-k.ids c.loop-k.k (omega (arith, past, count)) c.loop-k.invariant

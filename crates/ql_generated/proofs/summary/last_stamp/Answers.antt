use Rattle.std.proofs.Common.{◌≡◌, slice_get, Some, ap, sym, ◌∙◌, take, add-one, rules}
use Rattle.std.specs.Prelude.{max}
use Rattle.ql_exec.specs.Effects.{effect_at}
use Rattle.ql_generated.specs.Summaries.{last_stamp}
use Rattle.ql_generated.proofs.Counting.{none_stamped, stamp_more}
use Rattle.ql_generated.proofs.summary.last_stamp.Goals as goal

pub loop-k-init : goal.loop-k-init
loop-k-init c = none_stamped c.args.x.now

pub loop-k-preserved : goal.loop-k-preserved
loop-k-preserved c =
    let k = c.loop-k.k in
    let x = c.args.x.now in
    let e = c.get.result.now in
    let at : slice_get x k ≡ Some e = sym (ap (λ n. effect_at x n) (add-one k)) ∙ c.get.ensures in
    let top : c.max-last.result ≡ max c.loop-k.last e.stamp = search rules in
    top ∙ ap (λ n. max n e.stamp) c.loop-k.invariant ∙ sym (stamp_more x k e at) ∙ sym (ap (λ n. last_stamp (take n x)) (add-one k))

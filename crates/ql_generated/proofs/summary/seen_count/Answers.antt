use Rattle.std.proofs.Common.{◌≡◌, ℕ, slice_get, Some, ap, sym, ◌∙◌, length, take, arith, add-one}
use Rattle.std.specs.Option.{option_map}
use Rattle.ql_exec.specs.Effects.{effect_at}
use Rattle.ql_generated.specs.Summaries.{seen_count}
use Rattle.ql_generated.proofs.Counting.{none_seen, seen_more}
use Rattle.ql_generated.proofs.summary.seen_count.Goals as goal

pub loop-k-init : goal.loop-k-init
loop-k-init c = (none_seen c.args.x.now, omega arith)

pub loop-k-preserved : goal.loop-k-preserved
loop-k-preserved c =
    let k = c.loop-k.k in
    let x = c.args.x.now in
    let n : ℕ = c.seen_by.result in
    let at : option_map (λ e. length e.seen) (slice_get x k) ≡ Some n = sym (ap (λ m. option_map (λ e. length e.seen) (effect_at x m)) (add-one k)) ∙ c.seen_by.ensures.seen in
    let next = ap (λ m. seen_count (take m x)) (add-one k) ∙ seen_more x k n at in
    (omega (arith, c.loop-k.invariant.0, next), omega (arith, c.seen_by.ensures.few, c.loop-k.invariant.1))

use Rattle.std.proofs.Common.{◌≡◌, rules, map, ap, ◌∙◌}
use Rattle.std.specs.List.{filter_map}
use Rattle.std.proofs.lemmas.List.Sorted.{answers_always}
use Rattle.ql_exec.specs.Folding.{comes_before, in_order}
use Rattle.ql_eval.specs.Folds.{emitting_at}
use Rattle.ql_eval.proofs.EffectOrder.{emitting_in_order, is_order, sorted_effects}
use Rattle.ql_eval.proofs.EffectsApart.{emitting_apart}
use Rattle.ql_eval.proofs.order.emitting_in_order.Goals as goal

pub returns : goal.returns
returns c =
    let found : map (λ e. e.now) c.in_ok-order.order.items ≡ filter_map (emitting_at c.args.execution.now) c.args.seen.now =
    rw (c.effects.ensures.same, c.items.ensures.same) at c.in_ok-order.ensures in
    sorted_effects (λ e. e.now) c.in_ok-order.order.items c.sort_by.new.self.items
    (rw found (emitting_apart c.args.execution.now c.effects.ensures.execution c.args.seen.now c.items.ensures.ascending))
    (c.in_ok-sort_by.ensures.sorted (λ x y. comes_before x.now y.now) (is_order (λ e. e.now)) (answers_always _ _ _ (λ f a r g h. search rules)))
    (c.sort_by.ensures.stable (λ x y. comes_before x.now y.now) (is_order (λ e. e.now)) (answers_always _ _ _ (λ f a r g h. search rules)))
    ∙ ap in_order found ∙ emitting_in_order c.args.execution.now c.args.seen.now

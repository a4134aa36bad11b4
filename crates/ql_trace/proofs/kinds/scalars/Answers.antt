use Rattle.std.proofs.Common.{Some, sym, ◌∙◌, ap}
use Rattle.std.proofs.lemmas.List.{take_all}
use Rattle.serde_json.specs.View.{view}
use Rattle.ql_trace.specs.Kinds.{as_scalar, each_as}
use Rattle.ql_trace.proofs.Each.{each-map, each-more, each-none, each-start}
use Rattle.ql_trace.proofs.kinds.scalars.Goals as goal

pub loop-item-init : goal.loop-item-init
loop-item-init c = each-start _ c.args.items.now _ c.in_ok-elements.ensures.items

pub returns-in-None : goal.returns-in-None
returns-in-None c =
    sym (each-map (as_scalar c.args.base) view c.args.items.now
    ∙ each-none (λ j. as_scalar c.args.base (view j)) c.args.items.now c.loop-item.item-index _ c.loop-item-test.true c.item-item.is (sym c.in_ok-scalar.ensures ∙ c.in-None.is))

pub loop-item-preserved : goal.loop-item-preserved
loop-item-preserved c =
    each-more (λ j. as_scalar c.args.base (view j)) c.args.items.now c.loop-item.item-index _ _ _ c.loop-item-test.true c.item-item.is c.loop-item.invariant (sym c.in_ok-scalar.ensures ∙ c.in-Some.is)
    ∙ ap Some (sym c.in_ok-push-in-Some.ensures.items)

pub returns : goal.returns
returns c =
    sym (each-map (as_scalar c.args.base) view c.args.items.now
    ∙ ap (each_as (λ j. as_scalar c.args.base (view j))) (sym (take_all c.loop-item.item-index c.args.items.now c.loop-item-test.false)) ∙ c.loop-item.invariant)

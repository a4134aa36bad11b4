use Rattle.std.proofs.Common.{Some, map, sym, ◌∙◌, ap}
use Rattle.std.proofs.lemmas.List.{map_push, take_all}
use Rattle.std.specs.Option.{option_map}
use Rattle.serde_json.specs.View.{view}
use Rattle.ql_trace.specs.Ids.{id_text}
use Rattle.ql_trace.specs.Json.{as_id}
use Rattle.ql_trace.specs.Kinds.{each_as}
use Rattle.ql_trace.proofs.Each.{each-map, each-more, each-none, each-start}
use Rattle.ql_trace.proofs.form.ids.Goals as goal

pub loop-item-init : goal.loop-item-init
loop-item-init c = each-start _ c.args.items.now _ (ap (map id_text) c.in_ok-ids.ensures.items)

pub returns-in-None : goal.returns-in-None
returns-in-None c =
    sym (each-map as_id view c.args.items.now
    ∙ each-none (λ j. as_id (view j)) c.args.items.now c.loop-item.item-index _ c.loop-item-test.true c.item-item.is (sym c.id_of.ensures ∙ ap (option_map id_text) c.in-None.is))

pub loop-item-preserved : goal.loop-item-preserved
loop-item-preserved c =
    each-more (λ j. as_id (view j)) c.args.items.now c.loop-item.item-index _ _ _ c.loop-item-test.true c.item-item.is c.loop-item.invariant (sym c.id_of.ensures ∙ ap (option_map id_text) c.in-Some.is)
    ∙ ap Some (sym (ap (map id_text) c.in_ok-push-in-Some.ensures.items ∙ map_push id_text c.loop-item.ids.items c.in-Some.id))

pub returns : goal.returns
returns c =
    sym (each-map as_id view c.args.items.now
    ∙ ap (each_as (λ j. as_id (view j))) (sym (take_all c.loop-item.item-index c.args.items.now c.loop-item-test.false)) ∙ c.loop-item.invariant)

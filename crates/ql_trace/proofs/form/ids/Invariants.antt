use Rattle.std.proofs.Common.{◌≡◌, take, map, Some}
use Rattle.serde_json.specs.View.{view}
use Rattle.ql_trace.specs.Ids.{id_text}
use Rattle.ql_trace.specs.Json.{as_id}
use Rattle.ql_trace.specs.Kinds.{each_as}
use Rattle.ql_trace.proofs.form.ids.Given as goal

abbrev pub invariant-loop-item : goal.invariant-loop-item
invariant-loop-item l = each_as (λ j. as_id (view j)) (take l.item-index l.items) ≡ Some (map id_text l.ids.items)

use Rattle.std.proofs.Common.{◌≡◌, map, take}
use Rattle.std.specs.List.{filter_map}
use Rattle.ql_eval.specs.Folds.{emitting_at}
use Rattle.ql_eval.proofs.order.emitting.Given as goal

abbrev pub invariant-loop-id : goal.invariant-loop-id
invariant-loop-id l = map (λ e. e.now) l.found.items ≡ filter_map (emitting_at l.effects) (take l.id-index l.ids)

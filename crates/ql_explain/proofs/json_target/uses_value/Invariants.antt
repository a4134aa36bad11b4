use Rattle.std.proofs.Common.{◌≡◌, map, take}
use Rattle.serde_json.specs.View.{view}
use Rattle.ql_explain.specs.JsonExplanations.{use_data}
use Rattle.ql_explain.proofs.json_target.uses_value.Given as goal

abbrev pub invariant-loop-k : goal.invariant-loop-k
invariant-loop-k l = map view l.list.items ≡ map (use_data l.t.program) (take l.k l.uses)

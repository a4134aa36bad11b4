use Rattle.std.proofs.Common.{◌≡◌, map, take}
use Rattle.serde_json.specs.View.{view}
use Rattle.ql_explain.specs.JsonExplanations.{warning_data}
use Rattle.ql_explain.proofs.json_warnings.warnings_value.Given as goal

abbrev pub invariant-loop-k : goal.invariant-loop-k
invariant-loop-k l = map view l.list.items ≡ map (warning_data l.t.program) (take l.k l.warned)

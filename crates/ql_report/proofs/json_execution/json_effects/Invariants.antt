use Rattle.std.proofs.Common.{◌≡◌, map, take}
use Rattle.serde_json.specs.View.{view}
use Rattle.ql_report.specs.JsonRuns.{effects_from}
use Rattle.ql_report.proofs.json_execution.json_effects.Given as goal

abbrev pub invariant-loop-k : goal.invariant-loop-k
invariant-loop-k l = map view l.list.items ≡ effects_from l.t.program l.objects 1 (take l.k l.x)

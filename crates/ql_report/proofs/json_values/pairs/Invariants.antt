use Rattle.std.proofs.Common.{◌≡◌, map, take}
use Rattle.serde_json.specs.View.{view}
use Rattle.ql_report.specs.JsonValues.{entry_data}
use Rattle.ql_report.proofs.json_values.pairs.Given as goal

abbrev pub invariant-loop-k : goal.invariant-loop-k
invariant-loop-k l = map view l.list.items ≡ map entry_data (take l.k l.entries)

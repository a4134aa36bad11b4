use Rattle.std.proofs.Common.{◌≡◌, map, take}
use Rattle.serde_json.specs.View.{view}
use Rattle.ql_explain.specs.JsonExplanations.{fact_data}
use Rattle.ql_explain.proofs.json_facts.facts.Given as goal

abbrev pub invariant-loop-k : goal.invariant-loop-k
invariant-loop-k l = map view l.list.items ≡ map fact_data (take l.k l.facts)

use Rattle.std.proofs.Common.{map, take}
use Rattle.serde_json.specs.View.{view}
use Rattle.ql_explain.specs.JsonExplanations.{AreTargets}
use Rattle.ql_explain.proofs.json_explanation.targets.Given as goal

abbrev pub invariant-loop-k : goal.invariant-loop-k
invariant-loop-k l = AreTargets l.lexed l.t.program (take l.k l.findings) (map view l.list.items)

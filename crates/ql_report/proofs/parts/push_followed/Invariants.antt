use Rattle.std.proofs.Common.{◌≡◌, ◌++◌, All, map, take}
use Rattle.ql_value.specs.Spelling.{followed, value_text}
use Rattle.ql_value.specs.ValueGrammar.{IsValue}
use Rattle.ql_report.proofs.parts.push_followed.Given as goal

abbrev pub invariant-loop-value : goal.invariant-loop-value
invariant-loop-value l = record {
  text : l.out.items ≡ l.initial.out.items ++ followed (map value_text (take l.value-index l.values));
  values : All IsValue (take l.value-index l.values);
}

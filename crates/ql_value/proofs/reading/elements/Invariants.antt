use Rattle.std.proofs.Common.{◌≡◌, ◌≤◌, ◌-◌, [], drop, length}
use Rattle.ql_value.specs.Collections.{IsSet}
use Rattle.ql_value.specs.Reading.{elements_at}
use Rattle.ql_value.proofs.reading.elements.Given as goal

abbrev pub invariant-loop : goal.invariant-loop
invariant-loop l = record {
  within : l.at ≤ length l.bytes;
  counted : length l.elements.items ≡ l.counter;
  rule : IsSet l.elements.items;
  same : elements_at l.room [] (drop l.first l.bytes) ≡ elements_at (l.room - l.counter) l.elements.items (drop l.at l.bytes);
}

use Rattle.std.proofs.Common.{◌≡◌, ◌≤◌, ◌-◌, [], drop, length}
use Rattle.ql_value.specs.Collections.{IsMap}
use Rattle.ql_value.specs.Reading.{entries_at}
use Rattle.ql_value.proofs.reading.entries.Given as goal

abbrev pub invariant-loop : goal.invariant-loop
invariant-loop l = record {
  within : l.at ≤ length l.bytes;
  counted : length l.entries.items ≡ l.counter;
  rule : IsMap l.entries.items;
  same : entries_at l.room [] (drop l.first l.bytes) ≡ entries_at (l.room - l.counter) l.entries.items (drop l.at l.bytes);
}

use Rattle.std.proofs.Common.{◌≡◌, ◌++◌, All, take, map}
use Rattle.ql_value.specs.Spelling.{entry_text, followed}
use Rattle.ql_value.specs.ValueGrammar.{IsEntry}
use Rattle.ql_value.proofs.printing.push_entries.Given as goal

abbrev pub invariant-loop-entry : goal.invariant-loop-entry
invariant-loop-entry l = record {
  text : l.out.items ≡ l.initial.out.items ++ followed (map entry_text (take l.entry-index l.entries));
  scalars : All IsEntry (take l.entry-index l.entries);
}

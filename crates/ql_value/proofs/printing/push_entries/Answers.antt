use Rattle.std.proofs.lemmas.List.{take_all}
use Rattle.ql_value.specs.Spelling.{entry_text}
use Rattle.ql_value.specs.ValueGrammar.{IsEntry}
use Rattle.ql_value.proofs.Separated.{all_more, one_more}
use Rattle.ql_value.proofs.printing.push_entries.Goals as goal

pub loop-entry-preserved : goal.loop-entry-preserved
loop-entry-preserved c = record {
  text = rw (c.in_ok-push_entry.ensures.text, c.in_ok-push_bytes.ensures.ok, c.loop-entry.invariant.text)
      (one_more entry_text c.args.entries.now c.loop-entry.entry-index c.entry-item.result c.args.out.now.items c.loop-entry-test.true c.entry-item.is);
  scalars = all_more IsEntry c.args.entries.now c.loop-entry.entry-index c.entry-item.result c.loop-entry-test.true c.entry-item.is c.loop-entry.invariant.scalars c.in_ok-push_entry.ensures.scalars;
}

pub returns-clause-text : goal.returns-clause-text
returns-clause-text c = rw (take_all c.loop-entry.entry-index c.args.entries.now c.loop-entry-test.false) at c.loop-entry.invariant.text

pub returns-clause-scalars : goal.returns-clause-scalars
returns-clause-scalars c = rw (take_all c.loop-entry.entry-index c.args.entries.now c.loop-entry-test.false) at c.loop-entry.invariant.scalars

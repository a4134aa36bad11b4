use Rattle.std.proofs.Common.{length, []}
use Rattle.ql_grammar.specs.Table.{MoreFields, TheFields}
use Rattle.ql_parse.specs.Readings.{Collecting}
use Rattle.ql_parse.proofs.reader.Reader.fields.Given as goal

abbrev pub invariant-more : goal.invariant-more
invariant-more l = Collecting MoreFields (TheFields []) (TheFields l.found.items) l.fn.self l.self

abbrev pub decreases-more : goal.decreases-more
decreases-more l = length l.self.tokens

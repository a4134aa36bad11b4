use Rattle.std.proofs.Common.{length, map, []}
use Rattle.ql_lang.specs.Programs.{transaction_of}
use Rattle.ql_grammar.specs.Table.{MoreTransactions, TheTransactions}
use Rattle.ql_parse.specs.Readings.{Collecting}
use Rattle.ql_parse.proofs.reader.Reader.transactions.Given as goal

abbrev pub invariant-more : goal.invariant-more
invariant-more l = Collecting MoreTransactions (TheTransactions []) (TheTransactions (map transaction_of l.found.items)) l.fn.self l.self

abbrev pub decreases-more : goal.decreases-more
decreases-more l = length l.self.tokens

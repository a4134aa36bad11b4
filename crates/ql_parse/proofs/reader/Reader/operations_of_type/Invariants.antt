use Rattle.std.proofs.Common.{length, map}
use Rattle.ql_lang.specs.Programs.{operation_of}
use Rattle.ql_grammar.specs.Table.{AnOperation, MoreOperations, TheOperations, operation_symbols, operations_symbols}
use Rattle.ql_parse.specs.Readings.{Listing}
use Rattle.ql_parse.proofs.reader.Reader.operations_of_type.Given as goal

abbrev pub invariant-more : goal.invariant-more
invariant-more l = Listing operations_symbols operation_symbols MoreOperations (λ x. AnOperation (operation_of x)) (λ x. x) (λ all. TheOperations (map operation_of all)) l.found.items l.fn.self l.self

abbrev pub decreases-more : goal.decreases-more
decreases-more l = length l.self.tokens

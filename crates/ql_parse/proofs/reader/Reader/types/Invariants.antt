use Rattle.std.proofs.Common.{length, map}
use Rattle.ql_lang.specs.Programs.{replicated_of}
use Rattle.ql_grammar.specs.Table.{AType, MoreTypes, TheTypes, type_symbols}
use Rattle.ql_parse.specs.Readings.{Listing, types_symbols}
use Rattle.ql_parse.proofs.reader.Reader.types.Given as goal

abbrev pub invariant-more : goal.invariant-more
invariant-more l = Listing types_symbols type_symbols MoreTypes (λ x. AType (replicated_of x)) (λ x. x) (λ all. TheTypes (map replicated_of all)) l.found.items l.fn.self l.self

abbrev pub decreases-more : goal.decreases-more
decreases-more l = length l.self.tokens

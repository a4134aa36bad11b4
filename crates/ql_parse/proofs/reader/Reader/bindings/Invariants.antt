use Rattle.std.proofs.Common.{length, map}
use Rattle.ql_lang.specs.Programs.{binding_of}
use Rattle.ql_grammar.specs.Table.{ABinding, MoreBindings, TheBindings, binding_symbols, bindings_symbols}
use Rattle.ql_parse.specs.Readings.{Listing}
use Rattle.ql_parse.proofs.reader.Reader.bindings.Given as goal

abbrev pub invariant-more : goal.invariant-more
invariant-more l = Listing bindings_symbols binding_symbols MoreBindings (λ b. ABinding (binding_of b)) (λ x. x) (λ bs. TheBindings (map binding_of bs)) l.found.items l.fn.self l.self

abbrev pub decreases-more : goal.decreases-more
decreases-more l = length l.self.tokens

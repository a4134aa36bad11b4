use Rattle.std.proofs.Common.{length, [], ◌∷◌}
use Rattle.ql_grammar.specs.Table.{Then, SomeParams, MoreParams, TheParams, param_symbols}
use Rattle.ql_parse.specs.Readings.{Gathering}
use Rattle.ql_parse.proofs.reader.Reader.some_params.Given as goal

abbrev pub invariant-more : goal.invariant-more
invariant-more l = Gathering SomeParams (TheParams []) (λ below. param_symbols (Then MoreParams ∷ below)) (TheParams l.found.items) l.fn.self l.self

abbrev pub decreases-more : goal.decreases-more
decreases-more l = length l.self.tokens

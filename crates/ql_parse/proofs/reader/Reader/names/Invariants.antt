use Rattle.std.proofs.Common.{length, ◌≤◌, ◌∷◌}
use Rattle.ql_grammar.specs.declared.role.Role.TheVariants.{Plain}
use Rattle.ql_grammar.specs.Table.{ANameOf, AName, Rest, TheNames}
use Rattle.ql_parse.specs.Readings.{Listing, MarksNames, names_symbols}
use Rattle.ql_parse.proofs.reader.Reader.names.Given as goal

abbrev pub invariant-names : goal.invariant-names
invariant-names l = (length l.self.tokens ≤ length l.fn.self.tokens) × ((m : Rest) → MarksNames l.fn.mark m → Listing (names_symbols m) (λ below. ANameOf Plain ∷ below) m AName (λ n. n) TheNames l.names.items l.fn.self l.self)

abbrev pub decreases-names : goal.decreases-names
decreases-names l = length l.self.tokens

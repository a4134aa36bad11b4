use Rattle.std.proofs.Common.{length, ◌∷◌}
use Rattle.ql_grammar.specs.declared.role.Role.TheVariants.{Makes}
use Rattle.ql_grammar.specs.Table.{APart, ATerm, Term, TermList, MoreTerms, TheTerms}
use Rattle.ql_parse.specs.Readings.{Listing}
use Rattle.ql_parse.proofs.reader.Reader.terms.Given as goal

abbrev pub invariant-terms : goal.invariant-terms
invariant-terms l = Listing (λ below. APart TermList ∷ below) (λ below. APart (Term (Makes 1)) ∷ below) MoreTerms ATerm (λ x. x) TheTerms l.terms.items l.fn.self l.self

abbrev pub decreases-terms : goal.decreases-terms
decreases-terms l = length l.self.tokens

use Rattle.std.proofs.Common.{length, ◌∷◌}
use Rattle.ql_grammar.specs.Table.{APart, AVar, Variable, VarList, MoreVars, TheVars}
use Rattle.ql_parse.specs.Readings.{Listing}
use Rattle.ql_parse.proofs.reader.Reader.variables.Given as goal

abbrev pub invariant-vars : goal.invariant-vars
invariant-vars l = Listing (λ below. APart VarList ∷ below) (λ below. APart Variable ∷ below) MoreVars AVar (λ x. x) TheVars l.vars.items l.fn.self l.self

abbrev pub decreases-vars : goal.decreases-vars
decreases-vars l = length l.self.tokens

use Rattle.std.proofs.Common.{◌∙◌}
use Rattle.ql_lang.specs.Trees.{relation_of}
use Rattle.ql_formula.proofs.TableLaws.{related-told}
use Rattle.ql_formula.proofs.relations.Relations.test.Goals as goal

pub returns-clause-real : goal.returns-clause-real
returns-clause-real c = λ x is. c.tells.ensures ∙ related-told c.args.self.now x is (relation_of c.args.relation.now) c.args.a.0 c.args.b.0

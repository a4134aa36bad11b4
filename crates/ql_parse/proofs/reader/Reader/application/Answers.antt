use Rattle.std.proofs.Common.{◌∙◌}
use Rattle.std.proofs.lemmas.Result.{err_from_is_err_and}
use Rattle.ql_grammar.specs.ContractGrammar.{Applied}
use Rattle.ql_grammar.specs.Table.{RelationAt}
use Rattle.ql_grammar.proofs.Choices.{read-do, read-part}
use Rattle.ql_parse.proofs.reader.Reader.application.Goals as goal

pub returns-in_err-relation-clause-refused : goal.returns-in_err-relation-clause-refused
returns-in_err-relation-clause-refused c =
    let p = err_from_is_err_and c.from_residual.result c.from_residual.ensures.1 in
    rw (p.1, p.2) (λ f is below vs. read-part c.args.self.now (RelationAt Applied) _ _ ∙ c.in_err-relation.ensures.refused f is _ _)

pub returns-in_err-left-clause-refused : goal.returns-in_err-left-clause-refused
returns-in_err-left-clause-refused c =
    let p = err_from_is_err_and c.from_residual-in_err-left.result c.from_residual-in_err-left.ensures.1 in
    rw (p.1, p.2) (λ f is below vs. read-part c.args.self.now (RelationAt Applied) _ _ ∙ c.in_ok-relation.ensures.gave _ _ ∙ c.in_err-left.ensures.refused f is _ _)

pub returns-clause-gave : goal.returns-clause-gave
returns-clause-gave c = λ below vs. read-part c.args.self.now (RelationAt Applied) _ _ ∙ c.in_ok-relation.ensures.gave _ _ ∙ c.in_ok-left.ensures.gave _ _ ∙ read-do _ _ _ _

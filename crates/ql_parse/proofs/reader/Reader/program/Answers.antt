use Rattle.std.proofs.Common.{◌∙◌}
use Rattle.std.proofs.lemmas.Result.{err_from_is_err_and}
use Rattle.ql_grammar.proofs.Choices.{read-do}
use Rattle.ql_grammar.proofs.ByToken.{source-start}
use Rattle.ql_parse.proofs.reader.Reader.program.Goals as goal

pub returns-in_err-types-clause-refused : goal.returns-in_err-types-clause-refused
returns-in_err-types-clause-refused c =
    let p = err_from_is_err_and c.from_residual.result c.from_residual.ensures.1 in
    rw (p.1, p.2) (λ f is below vs. source-start c.args.self.now below vs ∙ c.in_err-types.ensures.refused f is _ _)

pub returns-in_err-txns-clause-refused : goal.returns-in_err-txns-clause-refused
returns-in_err-txns-clause-refused c =
    let p = err_from_is_err_and c.from_residual-in_err-txns.result c.from_residual-in_err-txns.ensures.1 in
    rw (p.1, p.2) (λ f is below vs. source-start c.args.self.now below vs ∙ c.in_ok-types.ensures.gave _ _ ∙ read-do _ _ _ _ ∙ c.in_err-txns.ensures.refused f is _ _)

pub returns-clause-gave : goal.returns-clause-gave
returns-clause-gave c = λ below vs. source-start c.args.self.now below vs ∙ c.in_ok-types.ensures.gave _ _ ∙ read-do _ _ _ _ ∙ c.in_ok-txns.ensures.gave _ _ ∙ read-do _ _ _ _

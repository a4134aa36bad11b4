use Rattle.std.proofs.Common.{◌∙◌}
use Rattle.std.proofs.lemmas.Result.{err_from_is_err_and}
use Rattle.ql_lang.specs.Expressions.{node_of}
use Rattle.ql_grammar.proofs.Choices.{read-do}
use Rattle.ql_grammar.proofs.ByToken.{unary-text}
use Rattle.ql_parse.proofs.reader.Reader.literal.Goals as goal

pub returns-in_err-text-clause-refused : goal.returns-in_err-text-clause-refused
returns-in_err-text-clause-refused c =
    let p = err_from_is_err_and c.from_residual.result c.from_residual.ensures.1 in
    rw (p.1, p.2) (λ f is below vs. unary-text c.args.self.now below vs c.requires ∙ c.in_err-text.ensures.refused f is _ _)

pub returns-clause-gave : goal.returns-clause-gave
unfolding node_of
returns-clause-gave c = λ below vs. rw (c.place-at.ensures, c.in_ok-text.ensures.bytes) (unary-text c.args.self.now below vs c.requires ∙ c.in_ok-text.ensures.gave _ _ ∙ read-do _ _ _ _)

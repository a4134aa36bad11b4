use Rattle.std.proofs.Common.{◌∙◌}
use Rattle.std.proofs.lemmas.Result.{err_from_is_err_and}
use Rattle.ql_grammar.proofs.Choices.{read-do}
use Rattle.ql_parse.proofs.reader.Reader.operation.Goals as goal

pub returns-in_err-heading-clause-refused : goal.returns-in_err-heading-clause-refused
returns-in_err-heading-clause-refused c =
    let p = err_from_is_err_and c.from_residual.result c.from_residual.ensures.1 in
    rw (p.1, p.2) (λ f is below vs. c.in_err-heading.ensures.refused f is _ _)

pub returns-in_err-body-clause-refused : goal.returns-in_err-body-clause-refused
returns-in_err-body-clause-refused c =
    let p = err_from_is_err_and c.from_residual-in_err-body.result c.from_residual-in_err-body.ensures.1 in
    rw (p.1, p.2) (λ f is below vs. c.in_ok-heading.ensures.gave _ _ ∙ c.in_err-body.ensures.refused f is _ _)

pub returns-clause-gave : goal.returns-clause-gave
returns-clause-gave c = λ below vs. c.in_ok-heading.ensures.gave _ _ ∙ c.in_ok-body.ensures.gave _ _ ∙ read-do _ _ _ _

pub returns-in_err-body-clause-gave : goal.returns-in_err-body-clause-gave
returns-in_err-body-clause-gave c = let p = err_from_is_err_and c.from_residual-in_err-body.result c.from_residual-in_err-body.ensures.1 in rw p.1 tt

pub returns-in_err-body-clause-shorter : goal.returns-in_err-body-clause-shorter
returns-in_err-body-clause-shorter c = let p = err_from_is_err_and c.from_residual-in_err-body.result c.from_residual-in_err-body.ensures.1 in rw p.1 tt

pub returns-in_err-heading-clause-gave : goal.returns-in_err-heading-clause-gave
returns-in_err-heading-clause-gave c = let p = err_from_is_err_and c.from_residual.result c.from_residual.ensures.1 in rw p.1 tt

pub returns-in_err-heading-clause-shorter : goal.returns-in_err-heading-clause-shorter
returns-in_err-heading-clause-shorter c = let p = err_from_is_err_and c.from_residual.result c.from_residual.ensures.1 in rw p.1 tt

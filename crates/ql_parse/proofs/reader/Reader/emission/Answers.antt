use Rattle.std.proofs.Common.{◌∙◌, arith}
use Rattle.std.proofs.lemmas.Result.{err_from_is_err_and}
use Rattle.ql_grammar.proofs.Choices.{read-do}
use Rattle.ql_parse.proofs.reader.Reader.emission.Goals as goal

pub returns-in_err-binds-clause-refused : goal.returns-in_err-binds-clause-refused
returns-in_err-binds-clause-refused c =
    let p = err_from_is_err_and c.from_residual.result c.from_residual.ensures.1 in
    rw (p.1, p.2) (λ f is below vs. c.in_err-binds.ensures.refused f is _ _)

pub returns-in_err-emitted-clause-refused : goal.returns-in_err-emitted-clause-refused
returns-in_err-emitted-clause-refused c =
    let p = err_from_is_err_and c.from_residual-in_err-emitted.result c.from_residual-in_err-emitted.ensures.1 in
    rw (p.1, p.2) (λ f is below vs. c.in_ok-binds.ensures.gave _ _ ∙ (rw c.in_err-emitted.ensures.refused at c.closed_value.ensures.refused) f is _ _)

pub returns-in_err-emitted-2-clause-refused : goal.returns-in_err-emitted-2-clause-refused
returns-in_err-emitted-2-clause-refused c =
    let p = err_from_is_err_and c.from_residual-in_err-emitted-2.result c.from_residual-in_err-emitted-2.ensures.1 in
    rw (p.1, p.2) (λ f is below vs. c.in_ok-binds.ensures.gave _ _ ∙ (rw c.in_ok-emitted.ensures.parts.1 at c.closed_value.ensures.gave) _ _ ∙ (rw c.in_err-emitted-2.ensures.refused at c.applied_statements.ensures.refused) f is _ _)

pub returns-clause-gave : goal.returns-clause-gave
returns-clause-gave c = λ below vs. rw (c.in_ok-emitted-2.ensures.parts.0, c.in_ok-emitted.ensures.parts.0) (c.in_ok-binds.ensures.gave _ _ ∙ (rw c.in_ok-emitted.ensures.parts.1 at c.closed_value.ensures.gave) _ _ ∙ (rw c.in_ok-emitted-2.ensures.parts.1 at c.applied_statements.ensures.gave) _ _ ∙ read-do _ _ _ _)

pub returns-clause-shorter : goal.returns-clause-shorter
returns-clause-shorter c =
    let test = rw c.in_ok-emitted.ensures.parts.1 at c.closed_value.ensures.shorter in
    let stmts = rw c.in_ok-emitted-2.ensures.parts.1 at c.applied_statements.ensures.shorter in
    omega (arith, c.in_ok-binds.ensures.shorter, test, stmts)

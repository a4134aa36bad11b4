use Rattle.std.proofs.Common.{◌∙◌}
use Rattle.std.proofs.lemmas.Result.{err_from_is_err_and}
use Rattle.ql_grammar.proofs.Choices.{read-do}
use Rattle.ql_parse.proofs.PrecedenceLaws.{if_ok, if_err}
use Rattle.ql_parse.proofs.reader.Reader.applied_statements.Goals as goal

pub returns-in_err-take-clause-refused : goal.returns-in_err-take-clause-refused
returns-in_err-take-clause-refused c =
    let p = err_from_is_err_and c.from_residual.result c.from_residual.ensures.1 in
    rw (p.1, p.2) (λ f is below vs. c.in_err-take.ensures.refused f is _ _)

pub returns-in_err-take-2-clause-refused : goal.returns-in_err-take-2-clause-refused
returns-in_err-take-2-clause-refused c =
    let p = err_from_is_err_and c.from_residual-in_err-take-2.result c.from_residual-in_err-take-2.ensures.1 in
    rw (p.1, p.2) (λ f is below vs. c.in_ok-take.ensures.took _ _ ∙ c.in_err-take-2.ensures.refused f is _ _)

pub returns-in_err-found-clause-refused : goal.returns-in_err-found-clause-refused
returns-in_err-found-clause-refused c =
    let p = err_from_is_err_and c.from_residual-in_err-found.result c.from_residual-in_err-found.ensures.1 in
    rw (p.1, p.2) (λ f is below vs. c.in_ok-take.ensures.took _ _ ∙ c.in_ok-take-2.ensures.took _ _ ∙ read-do _ _ _ _ ∙ c.in_err-found.ensures.refused f is _ _)

pub returns-clause-gave : goal.returns-clause-gave
returns-clause-gave c = if_ok c.past.result c.past.ensures.took (λ x read below vs. rw read.0 (c.in_ok-take.ensures.took _ _ ∙ c.in_ok-take-2.ensures.took _ _ ∙ read-do _ _ _ _ ∙ c.in_ok-found.ensures.gave _ _ ∙ read.1 _ _))

pub returns-clause-refused : goal.returns-clause-refused
returns-clause-refused c = if_err c.past.result c.past.ensures.refused (λ e refused f is below vs. c.in_ok-take.ensures.took _ _ ∙ c.in_ok-take-2.ensures.took _ _ ∙ read-do _ _ _ _ ∙ c.in_ok-found.ensures.gave _ _ ∙ refused f is _ _)

pub returns-in_err-found-clause-gave : goal.returns-in_err-found-clause-gave
returns-in_err-found-clause-gave c = let p = err_from_is_err_and c.from_residual-in_err-found.result c.from_residual-in_err-found.ensures.1 in rw p.1 tt

pub returns-in_err-found-clause-shorter : goal.returns-in_err-found-clause-shorter
returns-in_err-found-clause-shorter c = let p = err_from_is_err_and c.from_residual-in_err-found.result c.from_residual-in_err-found.ensures.1 in rw p.1 tt

pub returns-in_err-take-2-clause-gave : goal.returns-in_err-take-2-clause-gave
returns-in_err-take-2-clause-gave c = let p = err_from_is_err_and c.from_residual-in_err-take-2.result c.from_residual-in_err-take-2.ensures.1 in rw p.1 tt

pub returns-in_err-take-2-clause-shorter : goal.returns-in_err-take-2-clause-shorter
returns-in_err-take-2-clause-shorter c = let p = err_from_is_err_and c.from_residual-in_err-take-2.result c.from_residual-in_err-take-2.ensures.1 in rw p.1 tt

pub returns-in_err-take-clause-gave : goal.returns-in_err-take-clause-gave
returns-in_err-take-clause-gave c = let p = err_from_is_err_and c.from_residual.result c.from_residual.ensures.1 in rw p.1 tt

pub returns-in_err-take-clause-shorter : goal.returns-in_err-take-clause-shorter
returns-in_err-take-clause-shorter c = let p = err_from_is_err_and c.from_residual.result c.from_residual.ensures.1 in rw p.1 tt

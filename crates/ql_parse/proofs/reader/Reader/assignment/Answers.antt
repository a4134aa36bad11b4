use Rattle.std.proofs.Common.{◌∙◌}
use Rattle.std.proofs.lemmas.Result.{err_from_is_err_and}
use Rattle.ql_grammar.proofs.Choices.{read-do}
use Rattle.ql_parse.proofs.reader.Reader.assignment.Goals as goal

pub returns-in_err-target-clause-refused : goal.returns-in_err-target-clause-refused
returns-in_err-target-clause-refused c =
    let p = err_from_is_err_and c.from_residual.result c.from_residual.ensures.1 in
    rw (p.1, p.2) (λ f is below vs items. c.in_err-target.ensures.refused f is _ _)

pub returns-in_err-value-clause-refused : goal.returns-in_err-value-clause-refused
returns-in_err-value-clause-refused c =
    let p = err_from_is_err_and c.from_residual-in_err-value.result c.from_residual-in_err-value.ensures.1 in
    rw (p.1, p.2) (λ f is below vs items. c.in_ok-target.ensures.gave _ _ ∙ c.in_err-value.ensures.refused f is _ _)

pub returns-clause-gave : goal.returns-clause-gave
returns-clause-gave c = λ below vs items. c.in_ok-target.ensures.gave _ _ ∙ c.in_ok-value.ensures.gave _ _ ∙ read-do _ _ _ _

pub returns-in_err-target-clause-gave : goal.returns-in_err-target-clause-gave
returns-in_err-target-clause-gave c = let p = err_from_is_err_and c.from_residual.result c.from_residual.ensures.1 in rw p.1 tt

pub returns-in_err-target-clause-shorter : goal.returns-in_err-target-clause-shorter
returns-in_err-target-clause-shorter c = let p = err_from_is_err_and c.from_residual.result c.from_residual.ensures.1 in rw p.1 tt

pub returns-in_err-value-clause-gave : goal.returns-in_err-value-clause-gave
returns-in_err-value-clause-gave c = let p = err_from_is_err_and c.from_residual-in_err-value.result c.from_residual-in_err-value.ensures.1 in rw p.1 tt

pub returns-in_err-value-clause-shorter : goal.returns-in_err-value-clause-shorter
returns-in_err-value-clause-shorter c = let p = err_from_is_err_and c.from_residual-in_err-value.result c.from_residual-in_err-value.ensures.1 in rw p.1 tt

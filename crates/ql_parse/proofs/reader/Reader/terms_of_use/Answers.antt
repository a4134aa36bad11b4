use Rattle.std.proofs.Common.{◌∙◌}
use Rattle.std.proofs.lemmas.Result.{err_from_is_err_and}
use Rattle.ql_grammar.proofs.Choices.{read-do}
use Rattle.ql_parse.proofs.PrecedenceLaws.{if_ok, if_err}
use Rattle.ql_parse.proofs.reader.Reader.terms_of_use.Goals as goal

pub returns-in_err-take-clause-refused : goal.returns-in_err-take-clause-refused
returns-in_err-take-clause-refused c =
    let p = err_from_is_err_and c.from_residual.result c.from_residual.ensures.1 in
    rw (p.1, p.2) (λ f is below vs. c.in_err-take.ensures.refused f is _ _)

pub returns-in_err-uses-clause-refused : goal.returns-in_err-uses-clause-refused
returns-in_err-uses-clause-refused c =
    let p = err_from_is_err_and c.from_residual-in_err-uses.result c.from_residual-in_err-uses.ensures.1 in
    rw (p.1, p.2) (λ f is below vs. c.in_ok-take.ensures.took _ _ ∙ c.in_err-uses.ensures.refused f is _ _)

pub returns-in_err-contract-clause-refused : goal.returns-in_err-contract-clause-refused
returns-in_err-contract-clause-refused c =
    let p = err_from_is_err_and c.from_residual-in_err-contract.result c.from_residual-in_err-contract.ensures.1 in
    rw (p.1, p.2) (λ f is below vs. c.in_ok-take.ensures.took _ _ ∙ c.in_ok-uses.ensures.gave _ _ ∙ c.in_err-contract.ensures.refused f is _ _)

pub returns-clause-gave : goal.returns-clause-gave
returns-clause-gave c = if_ok c.past.result c.past.ensures.took (λ x read below vs. rw read.0 (c.in_ok-take.ensures.took _ _ ∙ c.in_ok-uses.ensures.gave _ _ ∙ c.in_ok-contract.ensures.gave _ _ ∙ read.1 _ _ ∙ read-do _ _ _ _))

pub returns-clause-refused : goal.returns-clause-refused
returns-clause-refused c = if_err c.past.result c.past.ensures.refused (λ e refused f is below vs. c.in_ok-take.ensures.took _ _ ∙ c.in_ok-uses.ensures.gave _ _ ∙ c.in_ok-contract.ensures.gave _ _ ∙ refused f is _ _)

pub returns-in_err-contract-clause-gave : goal.returns-in_err-contract-clause-gave
returns-in_err-contract-clause-gave c = let p = err_from_is_err_and c.from_residual-in_err-contract.result c.from_residual-in_err-contract.ensures.1 in rw p.1 tt

pub returns-in_err-contract-clause-shorter : goal.returns-in_err-contract-clause-shorter
returns-in_err-contract-clause-shorter c = let p = err_from_is_err_and c.from_residual-in_err-contract.result c.from_residual-in_err-contract.ensures.1 in rw p.1 tt

pub returns-in_err-take-clause-gave : goal.returns-in_err-take-clause-gave
returns-in_err-take-clause-gave c = let p = err_from_is_err_and c.from_residual.result c.from_residual.ensures.1 in rw p.1 tt

pub returns-in_err-take-clause-shorter : goal.returns-in_err-take-clause-shorter
returns-in_err-take-clause-shorter c = let p = err_from_is_err_and c.from_residual.result c.from_residual.ensures.1 in rw p.1 tt

pub returns-in_err-uses-clause-gave : goal.returns-in_err-uses-clause-gave
returns-in_err-uses-clause-gave c = let p = err_from_is_err_and c.from_residual-in_err-uses.result c.from_residual-in_err-uses.ensures.1 in rw p.1 tt

pub returns-in_err-uses-clause-shorter : goal.returns-in_err-uses-clause-shorter
returns-in_err-uses-clause-shorter c = let p = err_from_is_err_and c.from_residual-in_err-uses.result c.from_residual-in_err-uses.ensures.1 in rw p.1 tt

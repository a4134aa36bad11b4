use Rattle.std.proofs.Common.{◌∙◌, arith}
use Rattle.std.proofs.lemmas.Result.{err_from_is_err_and}
use Rattle.ql_parse.proofs.reader.Reader.body.Goals as goal

pub returns-in_err-take-clause-refused : goal.returns-in_err-take-clause-refused
returns-in_err-take-clause-refused c =
    let p = err_from_is_err_and c.from_residual.result c.from_residual.ensures.1 in
    rw (p.1, p.2) (λ f is below vs. c.in_err-take.ensures.refused f is _ _)

pub returns-in_err-contract-clause-refused : goal.returns-in_err-contract-clause-refused
returns-in_err-contract-clause-refused c =
    let p = err_from_is_err_and c.from_residual-in_err-contract.result c.from_residual-in_err-contract.ensures.1 in
    rw (p.1, p.2) (λ f is below vs. c.in_ok-take.ensures.took _ _ ∙ c.in_err-contract.ensures.refused f is _ _)

pub returns-in_err-said-clause-refused : goal.returns-in_err-said-clause-refused
returns-in_err-said-clause-refused c =
    let p = err_from_is_err_and c.from_residual-in_err-said.result c.from_residual-in_err-said.ensures.1 in
    rw (p.1, p.2) (λ f is below vs. c.in_ok-take.ensures.took _ _ ∙ c.in_ok-contract.ensures.gave _ _ ∙ (rw c.in_err-said.ensures.refused at c.closed_value.ensures.refused) f is _ _)

pub returns-in_err-said-2-clause-refused : goal.returns-in_err-said-2-clause-refused
returns-in_err-said-2-clause-refused c =
    let p = err_from_is_err_and c.from_residual-in_err-said-2.result c.from_residual-in_err-said-2.ensures.1 in
    rw (p.1, p.2) (λ f is below vs. c.in_ok-take.ensures.took _ _ ∙ c.in_ok-contract.ensures.gave _ _ ∙ (rw c.in_ok-said.ensures.parts.1 at c.closed_value.ensures.gave) _ _ ∙ (rw c.in_err-said-2.ensures.refused at c.ending.ensures.refused) f is _ _)

pub returns-clause-gave : goal.returns-clause-gave
returns-clause-gave c = λ below vs. rw (c.in_ok-said-2.ensures.parts.0, c.in_ok-said.ensures.parts.0) (c.in_ok-take.ensures.took _ _ ∙ c.in_ok-contract.ensures.gave _ _ ∙ (rw c.in_ok-said.ensures.parts.1 at c.closed_value.ensures.gave) _ _ ∙ (rw c.in_ok-said-2.ensures.parts.1 at c.ending.ensures.gave) _ _)

pub returns-clause-shorter : goal.returns-clause-shorter
returns-clause-shorter c =
    let answer = rw c.in_ok-said.ensures.parts.1 at c.closed_value.ensures.shorter in
    let effect = rw c.in_ok-said-2.ensures.parts.1 at c.ending.ensures.shorter in
    omega (arith, c.in_ok-take.ensures.shorter, c.in_ok-contract.ensures.shorter, answer, effect)

pub returns-in_err-contract-clause-gave : goal.returns-in_err-contract-clause-gave
returns-in_err-contract-clause-gave c = let p = err_from_is_err_and c.from_residual-in_err-contract.result c.from_residual-in_err-contract.ensures.1 in rw p.1 tt

pub returns-in_err-contract-clause-shorter : goal.returns-in_err-contract-clause-shorter
returns-in_err-contract-clause-shorter c = let p = err_from_is_err_and c.from_residual-in_err-contract.result c.from_residual-in_err-contract.ensures.1 in rw p.1 tt

pub returns-in_err-said-2-clause-gave : goal.returns-in_err-said-2-clause-gave
returns-in_err-said-2-clause-gave c = let p = err_from_is_err_and c.from_residual-in_err-said-2.result c.from_residual-in_err-said-2.ensures.1 in rw p.1 tt

pub returns-in_err-said-2-clause-shorter : goal.returns-in_err-said-2-clause-shorter
returns-in_err-said-2-clause-shorter c = let p = err_from_is_err_and c.from_residual-in_err-said-2.result c.from_residual-in_err-said-2.ensures.1 in rw p.1 tt

pub returns-in_err-said-clause-gave : goal.returns-in_err-said-clause-gave
returns-in_err-said-clause-gave c = let p = err_from_is_err_and c.from_residual-in_err-said.result c.from_residual-in_err-said.ensures.1 in rw p.1 tt

pub returns-in_err-said-clause-shorter : goal.returns-in_err-said-clause-shorter
returns-in_err-said-clause-shorter c = let p = err_from_is_err_and c.from_residual-in_err-said.result c.from_residual-in_err-said.ensures.1 in rw p.1 tt

pub returns-in_err-take-clause-gave : goal.returns-in_err-take-clause-gave
returns-in_err-take-clause-gave c = let p = err_from_is_err_and c.from_residual.result c.from_residual.ensures.1 in rw p.1 tt

pub returns-in_err-take-clause-shorter : goal.returns-in_err-take-clause-shorter
returns-in_err-take-clause-shorter c = let p = err_from_is_err_and c.from_residual.result c.from_residual.ensures.1 in rw p.1 tt

use Rattle.std.proofs.Common.{◌∙◌}
use Rattle.ql_parse.proofs.PrecedenceLaws.{if_ok, if_err}
use Rattle.std.proofs.lemmas.Result.{err_from_is_err_and}
use Rattle.ql_parse.proofs.reader.Reader.type_decl.Goals as goal

pub returns-in_err-at-clause-refused : goal.returns-in_err-at-clause-refused
returns-in_err-at-clause-refused c =
    let p = err_from_is_err_and c.from_residual.result c.from_residual.ensures.1 in
    rw (p.1, p.2) (λ f is below vs. c.in_err-at.ensures.refused_placed f is _ _)

pub returns-in_err-name-clause-refused : goal.returns-in_err-name-clause-refused
returns-in_err-name-clause-refused c =
    let p = err_from_is_err_and c.from_residual-in_err-name.result c.from_residual-in_err-name.ensures.1 in
    rw (p.1, p.2) (λ f is below vs. c.in_ok-at.ensures.gave _ _ ∙ c.in_err-name.ensures.refused f is _ _)

pub returns-clause-gave : goal.returns-clause-gave
returns-clause-gave c = if_ok c.members.result c.members.ensures.gave (λ x gave below vs. c.in_ok-at.ensures.gave _ _ ∙ c.in_ok-name.ensures.gave _ _ ∙ gave _ _)

pub returns-clause-refused : goal.returns-clause-refused
returns-clause-refused c = if_err c.members.result c.members.ensures.refused (λ e refused f is below vs. c.in_ok-at.ensures.gave _ _ ∙ c.in_ok-name.ensures.gave _ _ ∙ refused f is _ _)

pub returns-in_err-at-clause-gave : goal.returns-in_err-at-clause-gave
returns-in_err-at-clause-gave c = let p = err_from_is_err_and c.from_residual.result c.from_residual.ensures.1 in rw p.1 tt

pub returns-in_err-at-clause-shorter : goal.returns-in_err-at-clause-shorter
returns-in_err-at-clause-shorter c = let p = err_from_is_err_and c.from_residual.result c.from_residual.ensures.1 in rw p.1 tt

pub returns-in_err-name-clause-gave : goal.returns-in_err-name-clause-gave
returns-in_err-name-clause-gave c = let p = err_from_is_err_and c.from_residual-in_err-name.result c.from_residual-in_err-name.ensures.1 in rw p.1 tt

pub returns-in_err-name-clause-shorter : goal.returns-in_err-name-clause-shorter
returns-in_err-name-clause-shorter c = let p = err_from_is_err_and c.from_residual-in_err-name.result c.from_residual-in_err-name.ensures.1 in rw p.1 tt

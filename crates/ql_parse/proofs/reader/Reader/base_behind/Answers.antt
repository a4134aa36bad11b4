use Rattle.std.proofs.Common.{◌∙◌}
use Rattle.std.proofs.lemmas.Result.{err_from_is_err_and}
use Rattle.ql_parse.proofs.PrecedenceLaws.{if_ok, if_err}
use Rattle.ql_parse.proofs.reader.Reader.base_behind.Goals as goal

pub returns-in_err-take-clause-refused : goal.returns-in_err-take-clause-refused
returns-in_err-take-clause-refused c =
    let p = err_from_is_err_and c.from_residual.result c.from_residual.ensures.1 in
    rw (p.1, p.2) (λ f is below vs. c.in_err-take.ensures.refused f is _ _)

pub returns-clause-gave : goal.returns-clause-gave
returns-clause-gave c = if_ok c.base.result c.base.ensures.gave (λ x gave below vs. c.in_ok-take.ensures.took _ _ ∙ gave _ _)

pub returns-clause-refused : goal.returns-clause-refused
returns-clause-refused c = if_err c.base.result c.base.ensures.refused (λ e refused f is below vs. c.in_ok-take.ensures.took _ _ ∙ refused f is _ _)

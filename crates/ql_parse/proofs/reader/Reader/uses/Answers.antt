use Rattle.std.proofs.Common.{refl, ◌∙◌}
use Rattle.std.proofs.lemmas.Result.{err_from_is_err_and}
use Rattle.ql_grammar.specs.Table.{MoreListed}
use Rattle.ql_grammar.proofs.ByToken.{listed-start}
use Rattle.ql_parse.proofs.PrecedenceLaws.{if_ok, if_err}
use Rattle.ql_parse.proofs.reader.Reader.uses.Goals as goal

pub returns-in_err-take-clause-refused : goal.returns-in_err-take-clause-refused
returns-in_err-take-clause-refused c =
    let p = err_from_is_err_and c.from_residual.result c.from_residual.ensures.1 in
    rw (p.1, p.2) (λ f is below vs. c.in_err-take.ensures.refused f is _ _)

pub returns-in_err-names-clause-refused : goal.returns-in_err-names-clause-refused
returns-in_err-names-clause-refused c =
    let p = err_from_is_err_and c.from_residual-in_err-names.result c.from_residual-in_err-names.ensures.1 in
    rw (p.1, p.2) (λ f is below vs. c.in_ok-take.ensures.took _ _ ∙ listed-start _ _ _ ∙ c.in_err-names.ensures.refused MoreListed (λ under. refl) f is _ _)

pub returns-clause-gave : goal.returns-clause-gave
returns-clause-gave c = if_ok c.past.result c.past.ensures.took (λ x read below vs. rw read.0 (c.in_ok-take.ensures.took _ _ ∙ listed-start _ _ _ ∙ c.in_ok-names.ensures.gave MoreListed (λ under. refl) _ _ ∙ read.1 _ _))

pub returns-clause-refused : goal.returns-clause-refused
returns-clause-refused c = if_err c.past.result c.past.ensures.refused (λ e refused f is below vs. c.in_ok-take.ensures.took _ _ ∙ listed-start _ _ _ ∙ c.in_ok-names.ensures.gave MoreListed (λ under. refl) _ _ ∙ refused f is _ _)

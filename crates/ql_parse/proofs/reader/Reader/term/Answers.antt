use Rattle.std.proofs.Common.{sym, ◌∙◌}
use Rattle.std.proofs.lemmas.Result.{err_from_is_err_and}
use Rattle.ql_grammar.proofs.Choices.{read-do}
use Rattle.ql_grammar.proofs.Rules.{term-cur, term-name}
use Rattle.ql_parse.proofs.reader.Reader.term.Goals as goal

pub returns-in_err-at-clause-refused : goal.returns-in_err-at-clause-refused
returns-in_err-at-clause-refused c =
    let p = err_from_is_err_and c.from_residual.result c.from_residual.ensures.1 in
    rw (p.1, p.2) (λ f is below vs. term-cur c.args.self.now c.args.role below vs (sym c.sees.ensures ∙ c.if-sees.true) ∙ c.in_err-at.ensures.refused_placed f is _ _)

pub returns-then-sees-clause-gave : goal.returns-then-sees-clause-gave
returns-then-sees-clause-gave c = λ below vs. term-cur c.args.self.now c.args.role below vs (sym c.sees.ensures ∙ c.if-sees.true) ∙ c.in_ok-at.ensures.gave _ _ ∙ read-do _ _ _ _

pub returns-in_err-name-clause-refused : goal.returns-in_err-name-clause-refused
returns-in_err-name-clause-refused c =
    let p = err_from_is_err_and c.from_residual-in_err-name.result c.from_residual-in_err-name.ensures.1 in
    rw (p.1, p.2) (λ f is below vs. term-name c.args.self.now c.args.role below vs (sym c.sees.ensures ∙ c.if-sees.false) ∙ c.in_err-name.ensures.refused f is _ _)

pub returns-clause-gave : goal.returns-clause-gave
returns-clause-gave c = λ below vs. term-name c.args.self.now c.args.role below vs (sym c.sees.ensures ∙ c.if-sees.false) ∙ c.in_ok-name.ensures.gave _ _ ∙ read-do _ _ _ _

use Rattle.std.proofs.Common.{sym, ◌∙◌}
use Rattle.std.proofs.lemmas.Result.{err_from_is_err_and}
use Rattle.ql_grammar.specs.Table.{Effect}
use Rattle.ql_grammar.proofs.Rules.{then-on, then-past}
use Rattle.ql_parse.proofs.reader.Reader.effect.Goals as goal

pub returns-in_err-emission-clause-refused : goal.returns-in_err-emission-clause-refused
returns-in_err-emission-clause-refused c =
    let p = err_from_is_err_and c.from_residual.result c.from_residual.ensures.1 in
    rw (p.1, p.2) (λ f is below vs. then-on c.args.self.now Effect below _ (sym c.sees.ensures ∙ c.if-sees.true) ∙ c.in_err-emission.ensures.refused f is _ _)

pub returns-then-sees-clause-gave : goal.returns-then-sees-clause-gave
returns-then-sees-clause-gave c = λ below vs. then-on c.args.self.now Effect below _ (sym c.sees.ensures ∙ c.if-sees.true) ∙ c.in_ok-emission.ensures.gave _ _

pub returns-clause-gave : goal.returns-clause-gave
returns-clause-gave c = λ below vs. then-past c.args.self.now Effect below _ (sym c.sees.ensures ∙ c.if-sees.false)

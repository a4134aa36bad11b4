use Rattle.std.proofs.Common.{sym, ◌∙◌}
use Rattle.ql_grammar.proofs.ByToken.{beginning-number, beginning-negative, beginning-text, beginning-plain}
use Rattle.ql_parse.proofs.PrecedenceLaws.{if_ok, if_err}
use Rattle.ql_parse.proofs.reader.Reader.beginning.Goals as goal

pub returns-then-sees-clause-gave : goal.returns-then-sees-clause-gave
returns-then-sees-clause-gave c = if_ok c.plain_number.result c.plain_number.ensures.gave (λ x gave below vs. beginning-number c.args.self.now below vs (sym c.sees.ensures ∙ c.if-sees.true) ∙ gave _ _)

pub returns-then-sees-clause-refused : goal.returns-then-sees-clause-refused
returns-then-sees-clause-refused c = if_err c.plain_number.result c.plain_number.ensures.refused (λ e refused f is below vs. beginning-number c.args.self.now below vs (sym c.sees.ensures ∙ c.if-sees.true) ∙ refused f is _ _)

pub returns-then-sees-2-clause-gave : goal.returns-then-sees-2-clause-gave
returns-then-sees-2-clause-gave c = if_ok c.negative.result c.negative.ensures.gave (λ x gave below vs. beginning-negative c.args.self.now below vs (sym c.sees.ensures ∙ c.if-sees.false) (sym c.sees-2.ensures ∙ c.if-sees-2.true) ∙ gave _ _)

pub returns-then-sees-2-clause-refused : goal.returns-then-sees-2-clause-refused
returns-then-sees-2-clause-refused c = if_err c.negative.result c.negative.ensures.refused (λ e refused f is below vs. beginning-negative c.args.self.now below vs (sym c.sees.ensures ∙ c.if-sees.false) (sym c.sees-2.ensures ∙ c.if-sees-2.true) ∙ refused f is _ _)

pub returns-then-sees-3-clause-gave : goal.returns-then-sees-3-clause-gave
returns-then-sees-3-clause-gave c = if_ok c.plain_text.result c.plain_text.ensures.gave (λ x gave below vs. beginning-text c.args.self.now below vs (sym c.sees.ensures ∙ c.if-sees.false) (sym c.sees-2.ensures ∙ c.if-sees-2.false) (sym c.sees-3.ensures ∙ c.if-sees-3.true) ∙ gave _ _)

pub returns-then-sees-3-clause-refused : goal.returns-then-sees-3-clause-refused
returns-then-sees-3-clause-refused c = if_err c.plain_text.result c.plain_text.ensures.refused (λ e refused f is below vs. beginning-text c.args.self.now below vs (sym c.sees.ensures ∙ c.if-sees.false) (sym c.sees-2.ensures ∙ c.if-sees-2.false) (sym c.sees-3.ensures ∙ c.if-sees-3.true) ∙ refused f is _ _)

pub returns-clause-gave : goal.returns-clause-gave
returns-clause-gave c = if_ok c.plain_beginning.result c.plain_beginning.ensures.gave (λ x gave below vs. beginning-plain c.args.self.now below vs (sym c.sees.ensures ∙ c.if-sees.false) (sym c.sees-2.ensures ∙ c.if-sees-2.false) (sym c.sees-3.ensures ∙ c.if-sees-3.false) ∙ gave _ _)

pub returns-clause-refused : goal.returns-clause-refused
returns-clause-refused c = if_err c.plain_beginning.result c.plain_beginning.ensures.refused (λ e refused f is below vs. beginning-plain c.args.self.now below vs (sym c.sees.ensures ∙ c.if-sees.false) (sym c.sees-2.ensures ∙ c.if-sees-2.false) (sym c.sees-3.ensures ∙ c.if-sees-3.false) ∙ refused f is _ _)

use Rattle.std.proofs.Common.{sym, ◌∙◌}
use Rattle.ql_parse.proofs.PrecedenceLaws.{if_ok, if_err}
use Rattle.ql_grammar.proofs.Rules.{atom-txn, atom-term, atom-relation}
use Rattle.ql_parse.proofs.reader.Reader.statement.Goals as goal

pub returns-then-sees-clause-gave : goal.returns-then-sees-clause-gave
returns-then-sees-clause-gave c = if_ok c.txn.result c.txn.ensures.gave (λ x gave below vs. atom-txn c.args.self.now below vs c.requires.no_truth c.requires.no_group (sym c.sees.ensures ∙ c.if-sees.true) ∙ gave below vs)

pub returns-then-sees-clause-refused : goal.returns-then-sees-clause-refused
returns-then-sees-clause-refused c = if_err c.txn.result c.txn.ensures.refused (λ e refused f is below vs. atom-txn c.args.self.now below vs c.requires.no_truth c.requires.no_group (sym c.sees.ensures ∙ c.if-sees.true) ∙ refused f is below vs)

pub returns-then-sees_term-clause-gave : goal.returns-then-sees_term-clause-gave
returns-then-sees_term-clause-gave c = if_ok c.equality.result c.equality.ensures.gave (λ x gave below vs. atom-term c.args.self.now below vs c.requires.no_truth c.requires.no_group (sym c.sees.ensures ∙ c.if-sees.false) (sym c.sees_term.ensures ∙ c.if-sees_term.true) ∙ gave below vs)

pub returns-then-sees_term-clause-refused : goal.returns-then-sees_term-clause-refused
returns-then-sees_term-clause-refused c = if_err c.equality.result c.equality.ensures.refused (λ e refused f is below vs. atom-term c.args.self.now below vs c.requires.no_truth c.requires.no_group (sym c.sees.ensures ∙ c.if-sees.false) (sym c.sees_term.ensures ∙ c.if-sees_term.true) ∙ refused f is below vs)

pub returns-clause-gave : goal.returns-clause-gave
returns-clause-gave c = if_ok c.application.result c.application.ensures.gave (λ x gave below vs. atom-relation c.args.self.now below vs c.requires.no_truth c.requires.no_group (sym c.sees.ensures ∙ c.if-sees.false) (sym c.sees_term.ensures ∙ c.if-sees_term.false) ∙ gave below vs)

pub returns-clause-refused : goal.returns-clause-refused
returns-clause-refused c = if_err c.application.result c.application.ensures.refused (λ e refused f is below vs. atom-relation c.args.self.now below vs c.requires.no_truth c.requires.no_group (sym c.sees.ensures ∙ c.if-sees.false) (sym c.sees_term.ensures ∙ c.if-sees_term.false) ∙ refused f is below vs)

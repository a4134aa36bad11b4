use Rattle.std.proofs.Common.{sym, ◌∙◌}
use Rattle.ql_grammar.proofs.Choices.{read-do}
use Rattle.ql_grammar.proofs.ByToken.{kind-set, kind-map}
use Rattle.ql_parse.proofs.PrecedenceLaws.{if_ok, if_err}
use Rattle.ql_parse.proofs.WordRules.{kind-word}
use Rattle.ql_parse.proofs.reader.Reader.kind.Goals as goal

pub returns-then-sees-clause-gave : goal.returns-then-sees-clause-gave
returns-then-sees-clause-gave c = if_ok c.set_kind.result c.set_kind.ensures.gave (λ x gave below vs. kind-set c.args.self.now below vs (sym c.sees.ensures ∙ c.if-sees.true) ∙ gave _ _)

pub returns-then-sees-clause-refused : goal.returns-then-sees-clause-refused
returns-then-sees-clause-refused c = if_err c.set_kind.result c.set_kind.ensures.refused (λ e refused f is below vs. kind-set c.args.self.now below vs (sym c.sees.ensures ∙ c.if-sees.true) ∙ refused f is _ _)

pub returns-then-sees-2-clause-gave : goal.returns-then-sees-2-clause-gave
returns-then-sees-2-clause-gave c = if_ok c.map_kind.result c.map_kind.ensures.gave (λ x gave below vs. kind-map c.args.self.now below vs (sym c.sees.ensures ∙ c.if-sees.false) (sym c.sees-2.ensures ∙ c.if-sees-2.true) ∙ gave _ _)

pub returns-then-sees-2-clause-refused : goal.returns-then-sees-2-clause-refused
returns-then-sees-2-clause-refused c = if_err c.map_kind.result c.map_kind.ensures.refused (λ e refused f is below vs. kind-map c.args.self.now below vs (sym c.sees.ensures ∙ c.if-sees.false) (sym c.sees-2.ensures ∙ c.if-sees-2.true) ∙ refused f is _ _)

pub returns-clause-gave : goal.returns-clause-gave
returns-clause-gave c = if_ok c.past.result c.past.ensures.took (λ x read below vs. rw read.0 (kind-word c.args.self.now below vs (sym c.sees.ensures ∙ c.if-sees.false) (sym c.sees-2.ensures ∙ c.if-sees-2.false) _ c.kind_word-word.ensures ∙ read.1 _ _ ∙ read-do _ _ _ _))

pub returns-clause-refused : goal.returns-clause-refused
returns-clause-refused c = if_err c.past.result c.past.ensures.refused (λ e refused f is below vs. kind-word c.args.self.now below vs (sym c.sees.ensures ∙ c.if-sees.false) (sym c.sees-2.ensures ∙ c.if-sees-2.false) _ c.kind_word-word.ensures ∙ refused f is _ _)

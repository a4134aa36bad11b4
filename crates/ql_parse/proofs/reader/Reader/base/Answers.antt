use Rattle.std.proofs.Common.{◌∙◌}
use Rattle.ql_grammar.proofs.Choices.{read-do}
use Rattle.ql_parse.proofs.PrecedenceLaws.{if_ok, if_err}
use Rattle.ql_parse.proofs.WordRules.{base-word}
use Rattle.ql_parse.proofs.reader.Reader.base.Goals as goal

pub returns-clause-gave : goal.returns-clause-gave
returns-clause-gave c = if_ok c.past.result c.past.ensures.took (λ x read below vs. rw read.0 (base-word c.args.self.now below vs _ c.base_word-word.ensures ∙ read.1 _ _ ∙ read-do _ _ _ _))

pub returns-clause-refused : goal.returns-clause-refused
returns-clause-refused c = if_err c.past.result c.past.ensures.refused (λ e refused f is below vs. base-word c.args.self.now below vs _ c.base_word-word.ensures ∙ refused f is _ _)

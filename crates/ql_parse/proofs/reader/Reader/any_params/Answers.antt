use Rattle.std.proofs.Common.{sym, ◌∙◌}
use Rattle.ql_grammar.specs.Table.{SomeParams}
use Rattle.ql_grammar.proofs.Rules.{then-past}
use Rattle.ql_parse.proofs.reader.Reader.any_params.Goals as goal

pub returns-clause-gave : goal.returns-clause-gave
returns-clause-gave c = λ below vs. rw (c.of-params.ensures, c.new-none.ensures.items) (then-past c.args.self.now SomeParams below _ (sym c.sees.ensures ∙ c.if-sees.false))

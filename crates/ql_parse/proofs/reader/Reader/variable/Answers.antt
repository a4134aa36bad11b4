use Rattle.std.proofs.Common.{refl, ◌∙◌}
use Rattle.std.proofs.lemmas.Result.{err_from_is_err_and}
use Rattle.ql_grammar.specs.Table.{MoreNames, Operations}
use Rattle.ql_grammar.proofs.Choices.{read-do}
use Rattle.ql_grammar.proofs.Rules.{names-start, variable-start, then-on, then-past}
use Rattle.ql_parse.proofs.Lists.{stays}
use Rattle.ql_parse.proofs.reader.Reader.variable.Goals as goal

pub returns-in_err-name-clause-refused : goal.returns-in_err-name-clause-refused
returns-in_err-name-clause-refused c =
    let p = err_from_is_err_and c.from_residual.result c.from_residual.ensures.1 in
    rw (p.1, p.2) (λ f is below vs. variable-start c.args.self.now below vs ∙ c.in_err-name.ensures.refused f is _ _)

pub returns-in_err-ops-clause-refused : goal.returns-in_err-ops-clause-refused
returns-in_err-ops-clause-refused c =
    let p = err_from_is_err_and c.from_residual-in_err-ops.result c.from_residual-in_err-ops.ensures.1 in
    rw (p.1, p.2) (λ f is below vs. variable-start c.args.self.now below vs ∙ c.in_ok-name.ensures.gave _ _ ∙ read-do _ _ _ _ ∙ then-on _ Operations below _ (c.passes.ensures.passed c.if-passes.true).sees ∙ (c.passes.ensures.passed c.if-passes.true).took _ _ ∙ names-start _ _ _ ∙ c.in_err-ops.ensures.refused MoreNames (λ under. refl) f is _ _)

pub returns-then-passes-clause-gave : goal.returns-then-passes-clause-gave
returns-then-passes-clause-gave c = λ below vs. variable-start c.args.self.now below vs ∙ c.in_ok-name.ensures.gave _ _ ∙ read-do _ _ _ _ ∙ then-on _ Operations below _ (c.passes.ensures.passed c.if-passes.true).sees ∙ (c.passes.ensures.passed c.if-passes.true).took _ _ ∙ names-start _ _ _ ∙ c.in_ok-ops.ensures.gave MoreNames (λ under. refl) _ _ ∙ read-do _ _ _ _

pub returns-clause-gave : goal.returns-clause-gave
returns-clause-gave c = λ below vs.
    let missed = c.passes.ensures.missed c.if-passes.false in
    rw (c.of-ops.ensures, c.new-none.ensures.items) (variable-start c.args.self.now below vs ∙ c.in_ok-name.ensures.gave _ _ ∙ read-do _ _ _ _ ∙ then-past _ Operations below _ missed.misses ∙ stays missed _ _)

use Rattle.std.proofs.Common.{sym, ◌∙◌}
use Rattle.std.proofs.lemmas.Result.{err_from_is_err_and}
use Rattle.ql_lang.specs.Expressions.{node_of}
use Rattle.ql_grammar.proofs.Choices.{read-do}
use Rattle.ql_grammar.proofs.ByToken.{constant-true, constant-false, constant-unit}
use Rattle.ql_parse.proofs.reader.Reader.constant.Goals as goal

pub returns-then-sees-clause-gave : goal.returns-then-sees-clause-gave
unfolding node_of
returns-then-sees-clause-gave c = λ below vs. constant-true c.args.self.now below vs (sym c.sees.ensures ∙ c.if-sees.true) ∙ c.in_ok-at.ensures.gave _ _ ∙ read-do _ _ _ _

pub returns-then-sees-2-clause-gave : goal.returns-then-sees-2-clause-gave
unfolding node_of
returns-then-sees-2-clause-gave c = λ below vs. constant-false c.args.self.now below vs (sym c.sees.ensures ∙ c.if-sees.false) (sym c.sees-2.ensures ∙ c.if-sees-2.true) ∙ c.in_ok-at-2.ensures.gave _ _ ∙ read-do _ _ _ _

pub returns-in_err-at-3-clause-refused : goal.returns-in_err-at-3-clause-refused
returns-in_err-at-3-clause-refused c =
    let p = err_from_is_err_and c.from_residual-in_err-at-3.result c.from_residual-in_err-at-3.ensures.1 in
    rw (p.1, p.2) (λ f is below vs. constant-unit c.args.self.now below vs (sym c.sees.ensures ∙ c.if-sees.false) (sym c.sees-2.ensures ∙ c.if-sees-2.false) ∙ c.in_err-at-3.ensures.refused_placed f is _ _)

pub returns-clause-gave : goal.returns-clause-gave
unfolding node_of
returns-clause-gave c = λ below vs. constant-unit c.args.self.now below vs (sym c.sees.ensures ∙ c.if-sees.false) (sym c.sees-2.ensures ∙ c.if-sees-2.false) ∙ c.in_ok-at-3.ensures.gave _ _ ∙ read-do _ _ _ _

pub returns-in_err-at-2-clause-gave : goal.returns-in_err-at-2-clause-gave
returns-in_err-at-2-clause-gave c = let p = err_from_is_err_and c.from_residual-in_err-at-2.result c.from_residual-in_err-at-2.ensures.1 in rw p.1 tt

pub returns-in_err-at-2-clause-shorter : goal.returns-in_err-at-2-clause-shorter
returns-in_err-at-2-clause-shorter c = let p = err_from_is_err_and c.from_residual-in_err-at-2.result c.from_residual-in_err-at-2.ensures.1 in rw p.1 tt

pub returns-in_err-at-3-clause-gave : goal.returns-in_err-at-3-clause-gave
returns-in_err-at-3-clause-gave c = let p = err_from_is_err_and c.from_residual-in_err-at-3.result c.from_residual-in_err-at-3.ensures.1 in rw p.1 tt

pub returns-in_err-at-3-clause-shorter : goal.returns-in_err-at-3-clause-shorter
returns-in_err-at-3-clause-shorter c = let p = err_from_is_err_and c.from_residual-in_err-at-3.result c.from_residual-in_err-at-3.ensures.1 in rw p.1 tt

pub returns-in_err-at-clause-gave : goal.returns-in_err-at-clause-gave
returns-in_err-at-clause-gave c = let p = err_from_is_err_and c.from_residual.result c.from_residual.ensures.1 in rw p.1 tt

pub returns-in_err-at-clause-shorter : goal.returns-in_err-at-clause-shorter
returns-in_err-at-clause-shorter c = let p = err_from_is_err_and c.from_residual.result c.from_residual.ensures.1 in rw p.1 tt

use Rattle.std.proofs.Common.{◌∙◌}
use Rattle.std.proofs.lemmas.Result.{err_from_is_err_and}
use Rattle.ql_grammar.proofs.Choices.{read-do}
use Rattle.ql_grammar.proofs.Rules.{contract-forall, contract-plain}
use Rattle.ql_parse.proofs.Lists.{stays}
use Rattle.ql_parse.proofs.reader.Reader.contract.Goals as goal

pub returns-in_err-vars-clause-refused : goal.returns-in_err-vars-clause-refused
returns-in_err-vars-clause-refused c =
    let p = err_from_is_err_and c.from_residual.result c.from_residual.ensures.1 in
    rw (p.1, p.2) (λ f is below vs. contract-forall c.args.self.now below vs (c.passes.ensures.passed c.if-passes.true).sees ∙ (c.passes.ensures.passed c.if-passes.true).took _ _ ∙ c.in_err-vars.ensures.refused f is _ _)

pub returns-in_err-take-clause-refused : goal.returns-in_err-take-clause-refused
returns-in_err-take-clause-refused c =
    let p = err_from_is_err_and c.from_residual-in_err-take.result c.from_residual-in_err-take.ensures.1 in
    rw (p.1, p.2) (λ f is below vs. contract-forall c.args.self.now below vs (c.passes.ensures.passed c.if-passes.true).sees ∙ (c.passes.ensures.passed c.if-passes.true).took _ _ ∙ c.in_ok-vars.ensures.gave _ _ ∙ c.in_err-take.ensures.refused f is _ _)

pub returns-in_err-body-clause-refused : goal.returns-in_err-body-clause-refused
returns-in_err-body-clause-refused c =
    let p = err_from_is_err_and c.from_residual-in_err-body.result c.from_residual-in_err-body.ensures.1 in
    rw (p.1, p.2) (λ f is below vs. contract-forall c.args.self.now below vs (c.passes.ensures.passed c.if-passes.true).sees ∙ (c.passes.ensures.passed c.if-passes.true).took _ _ ∙ c.in_ok-vars.ensures.gave _ _ ∙ c.in_ok-take.ensures.took _ _ ∙ c.in_err-body.ensures.refused f is _ _)

pub returns-then-passes-clause-gave : goal.returns-then-passes-clause-gave
returns-then-passes-clause-gave c = λ below vs. contract-forall c.args.self.now below vs (c.passes.ensures.passed c.if-passes.true).sees ∙ (c.passes.ensures.passed c.if-passes.true).took _ _ ∙ c.in_ok-vars.ensures.gave _ _ ∙ c.in_ok-take.ensures.took _ _ ∙ c.in_ok-body.ensures.gave _ _ ∙ read-do _ _ _ _

pub returns-in_err-body-2-clause-refused : goal.returns-in_err-body-2-clause-refused
returns-in_err-body-2-clause-refused c =
    let missed = c.passes.ensures.missed c.if-passes.false in
    let p = err_from_is_err_and c.from_residual-in_err-body-2.result c.from_residual-in_err-body-2.ensures.1 in
    rw (p.1, p.2) (λ f is below vs. contract-plain c.args.self.now below vs missed.misses ∙ stays missed _ _ ∙ c.in_err-body-2.ensures.refused f is _ _)

pub returns-clause-gave : goal.returns-clause-gave
returns-clause-gave c = λ below vs.
    let missed = c.passes.ensures.missed c.if-passes.false in
    rw (c.of-vars.ensures, c.new-none.ensures.items) (contract-plain c.args.self.now below vs missed.misses ∙ stays missed _ _ ∙ c.in_ok-body-2.ensures.gave _ _ ∙ read-do _ _ _ _)

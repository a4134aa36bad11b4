use Rattle.std.proofs.Common.{◌∙◌, arith}
use Rattle.std.proofs.lemmas.Result.{err_from_is_err_and}
use Rattle.ql_grammar.specs.Table.{SomeParams, MoreParams}
use Rattle.ql_grammar.proofs.Rules.{then-on, then-past}
use Rattle.ql_parse.proofs.Lists.{stays}
use Rattle.ql_parse.proofs.reader.Reader.some_params.Goals as goal

pub more-init : goal.more-init
more-init c = rw c.in_ok-found.ensures.items (record { so_far = λ below vs. then-on c.args.self.now SomeParams below _ c.requires; within = omega arith })

pub returns-in_err-param-clause-refused : goal.returns-in_err-param-clause-refused
returns-in_err-param-clause-refused c =
    let p = err_from_is_err_and c.from_residual-in_err-param.result c.from_residual-in_err-param.ensures.1 in
    rw (p.1, p.2) (λ f is below vs. c.more.invariant.so_far below vs ∙ c.in_err-param.ensures.refused f is _ _ _)

pub more-preserved : goal.more-preserved
more-preserved c =
    let passed = c.passes.ensures.passed c.if-not-passes.false in
    rw c.in_ok-push.ensures.items (record {
      so_far = λ below vs. c.more.invariant.so_far below vs ∙ c.in_ok-param.ensures.gave _ _ _ ∙ then-on c.param.new.self MoreParams below _ passed.sees ∙ passed.took _ _;
      within = omega (arith, c.in_ok-param.ensures.shorter, c.passes.ensures.within, c.more.invariant.within);
    })

pub returns-then-not-passes-clause-gave : goal.returns-then-not-passes-clause-gave
returns-then-not-passes-clause-gave c = λ below vs.
    let missed = c.passes.ensures.missed c.if-not-passes.true in
    rw (c.of.ensures, c.in_ok-push.ensures.items) (c.more.invariant.so_far below vs ∙ c.in_ok-param.ensures.gave _ _ _ ∙ then-past c.param.new.self MoreParams below _ missed.misses ∙ stays missed _ _)

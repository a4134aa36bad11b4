use Rattle.std.proofs.Common.{sym, ◌∙◌, refl, arith}
use Rattle.std.proofs.lemmas.Result.{err_from_is_err_and}
use Rattle.ql_lang.specs.Programs.{assignment_of}
use Rattle.ql_grammar.specs.Table.{MoreAssignments}
use Rattle.ql_grammar.proofs.Rules.{then-on, then-past}
use Rattle.ql_parse.proofs.ArgumentLemmas.{map_more}
use Rattle.ql_parse.proofs.reader.Reader.statements.Goals as goal

pub more-init : goal.more-init
more-init c = rw c.in_ok-found.ensures.items (record { so_far = λ below vs. refl; within = omega arith })

pub returns-in_err-item-clause-refused : goal.returns-in_err-item-clause-refused
returns-in_err-item-clause-refused c =
    let p = err_from_is_err_and c.from_residual-in_err-item.result c.from_residual-in_err-item.ensures.1 in
    rw (p.1, p.2) (λ f is below vs. c.more.invariant.so_far below vs ∙ then-on c.more.self MoreAssignments below _ (sym c.sees.ensures ∙ c.more-test.true) ∙ c.in_err-item.ensures.refused f is _ _ _)

pub more-preserved : goal.more-preserved
more-preserved c =
    rw (c.in_ok-push.ensures.items, map_more assignment_of c.more.found.items c.in_ok-item.item) (record {
      so_far = λ below vs. c.more.invariant.so_far below vs ∙ then-on c.more.self MoreAssignments below _ (sym c.sees.ensures ∙ c.more-test.true) ∙ c.in_ok-item.ensures.gave _ _ _;
      within = omega (arith, c.in_ok-item.ensures.shorter, c.more.invariant.within);
    })

pub returns-clause-gave : goal.returns-clause-gave
returns-clause-gave c = λ below vs. rw (c.of.ensures) (c.more.invariant.so_far below vs ∙ then-past c.more.self MoreAssignments below _ (sym c.sees.ensures ∙ c.more-test.false))

pub returns-in_err-found-clause-gave : goal.returns-in_err-found-clause-gave
returns-in_err-found-clause-gave c = let p = err_from_is_err_and c.from_residual.result c.from_residual.ensures.1 in rw p.1 tt

pub returns-in_err-found-clause-within : goal.returns-in_err-found-clause-within
returns-in_err-found-clause-within c = let p = err_from_is_err_and c.from_residual.result c.from_residual.ensures.1 in rw p.1 tt

pub returns-in_err-item-clause-gave : goal.returns-in_err-item-clause-gave
returns-in_err-item-clause-gave c = let p = err_from_is_err_and c.from_residual-in_err-item.result c.from_residual-in_err-item.ensures.1 in rw p.1 tt

pub returns-in_err-item-clause-within : goal.returns-in_err-item-clause-within
returns-in_err-item-clause-within c = let p = err_from_is_err_and c.from_residual-in_err-item.result c.from_residual-in_err-item.ensures.1 in rw p.1 tt

pub returns-in_err-push-clause-gave : goal.returns-in_err-push-clause-gave
returns-in_err-push-clause-gave c = let p = err_from_is_err_and c.from_residual-in_err-push.result c.from_residual-in_err-push.ensures.1 in rw p.1 tt

pub returns-in_err-push-clause-within : goal.returns-in_err-push-clause-within
returns-in_err-push-clause-within c = let p = err_from_is_err_and c.from_residual-in_err-push.result c.from_residual-in_err-push.ensures.1 in rw p.1 tt

use Rattle.std.proofs.Common.{refl, sym, ap, ◌∷◌, arith}
use Rattle.std.proofs.lemmas.Result.{err_from_is_err_and}
use Rattle.ql_lang.specs.Programs.{binding_of}
use Rattle.ql_grammar.specs.Table.{TheBindings, add_binding, to_bindings}
use Rattle.ql_parse.proofs.ArgumentLemmas.{map_more}
use Rattle.ql_parse.proofs.Lists.{begins, item_refused, read_all, read_mark}
use Rattle.ql_parse.proofs.reader.Reader.bindings.Goals as goal

pub returns-in_err-take-clause-refused : goal.returns-in_err-take-clause-refused
returns-in_err-take-clause-refused c =
    let p = err_from_is_err_and c.from_residual.result c.from_residual.ensures.1 in
    rw (p.1, p.2) (λ f is below vs. c.in_err-take.ensures.refused f is _ _)

pub more-init : goal.more-init
more-init c = rw c.in_ok-found.ensures.items (begins to_bindings (λ below vs. c.in_ok-take.ensures.took _ _) (λ x vs. refl) (omega (arith, c.in_ok-take.ensures.shorter)))

pub returns-in_err-binding-clause-refused : goal.returns-in_err-binding-clause-refused
returns-in_err-binding-clause-refused c =
    let p = err_from_is_err_and c.from_residual-in_err-binding.result c.from_residual-in_err-binding.ensures.1 in
    rw (p.1, p.2) (item_refused _ c.more.invariant c.in_err-binding.ensures.refused)

pub more-preserved : goal.more-preserved
more-preserved c = rw c.in_ok-push.ensures.items (read_mark c.more.invariant c.binding.new.self c.in_ok-binding.binding c.in_ok-binding.ensures.gave (c.passes.ensures.passed c.if-not-passes.false) add_binding (λ below. refl) (λ y xs vs. ap (λ bs. TheBindings bs ∷ vs) (sym (map_more binding_of xs y))) c.in_ok-binding.ensures.shorter c.passes.ensures.within)

pub returns-then-not-passes-clause-gave : goal.returns-then-not-passes-clause-gave
returns-then-not-passes-clause-gave c = λ below vs. rw (c.of.ensures, c.in_ok-push.ensures.items) (read_all c.more.invariant c.binding.new.self c.in_ok-binding.binding c.in_ok-binding.ensures.gave (c.passes.ensures.missed c.if-not-passes.true) (λ under. refl) below vs)

pub returns-in_err-binding-clause-gave : goal.returns-in_err-binding-clause-gave
returns-in_err-binding-clause-gave c = let p = err_from_is_err_and c.from_residual-in_err-binding.result c.from_residual-in_err-binding.ensures.1 in rw p.1 tt

pub returns-in_err-binding-clause-shorter : goal.returns-in_err-binding-clause-shorter
returns-in_err-binding-clause-shorter c = let p = err_from_is_err_and c.from_residual-in_err-binding.result c.from_residual-in_err-binding.ensures.1 in rw p.1 tt

pub returns-in_err-found-clause-gave : goal.returns-in_err-found-clause-gave
returns-in_err-found-clause-gave c = let p = err_from_is_err_and c.from_residual-in_err-found.result c.from_residual-in_err-found.ensures.1 in rw p.1 tt

pub returns-in_err-found-clause-shorter : goal.returns-in_err-found-clause-shorter
returns-in_err-found-clause-shorter c = let p = err_from_is_err_and c.from_residual-in_err-found.result c.from_residual-in_err-found.ensures.1 in rw p.1 tt

pub returns-in_err-push-clause-gave : goal.returns-in_err-push-clause-gave
returns-in_err-push-clause-gave c = let p = err_from_is_err_and c.from_residual-in_err-push.result c.from_residual-in_err-push.ensures.1 in rw p.1 tt

pub returns-in_err-push-clause-shorter : goal.returns-in_err-push-clause-shorter
returns-in_err-push-clause-shorter c = let p = err_from_is_err_and c.from_residual-in_err-push.result c.from_residual-in_err-push.ensures.1 in rw p.1 tt

pub returns-in_err-take-clause-gave : goal.returns-in_err-take-clause-gave
returns-in_err-take-clause-gave c = let p = err_from_is_err_and c.from_residual.result c.from_residual.ensures.1 in rw p.1 tt

pub returns-in_err-take-clause-shorter : goal.returns-in_err-take-clause-shorter
returns-in_err-take-clause-shorter c = let p = err_from_is_err_and c.from_residual.result c.from_residual.ensures.1 in rw p.1 tt

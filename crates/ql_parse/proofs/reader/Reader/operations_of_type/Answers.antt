use Rattle.std.proofs.Common.{refl, sym, ◌∙◌, ap, ◌∷◌, arith}
use Rattle.std.proofs.lemmas.Result.{err_from_is_err_and}
use Rattle.ql_lang.specs.Programs.{operation_of}
use Rattle.ql_grammar.specs.Table.{TheOperations, add_operation, to_operations}
use Rattle.ql_parse.proofs.ArgumentLemmas.{map_more}
use Rattle.ql_parse.proofs.Lists.{begins, item_refused, read_last, read_more}
use Rattle.ql_parse.proofs.reader.Reader.operations_of_type.Goals as goal

pub more-init : goal.more-init
more-init c = rw c.new-found.ensures.items (begins to_operations (λ below vs. refl) (λ x vs. refl) (omega arith))

pub returns-in_err-item-clause-refused : goal.returns-in_err-item-clause-refused
returns-in_err-item-clause-refused c =
    let p = err_from_is_err_and c.from_residual.result c.from_residual.ensures.1 in
    rw (p.1, p.2) (item_refused _ c.more.invariant c.in_err-item.ensures.refused)

pub more-preserved : goal.more-preserved
more-preserved c = rw c.in_ok-push.ensures.items (read_more c.more.invariant c.operation.new.self c.in_ok-item.item c.in_ok-item.ensures.gave add_operation (λ below. refl) (λ y xs vs. ap (λ all. TheOperations all ∷ vs) (sym (map_more operation_of xs y))) (λ below. sym c.sees.ensures ∙ c.if-not-sees.false) c.in_ok-item.ensures.shorter)

pub returns-then-not-sees-clause-gave : goal.returns-then-not-sees-clause-gave
returns-then-not-sees-clause-gave c = λ below vs. rw (c.of.ensures, c.in_ok-push.ensures.items) (read_last c.more.invariant c.operation.new.self c.in_ok-item.item c.in_ok-item.ensures.gave (λ under. sym c.sees.ensures ∙ c.if-not-sees.true) below vs)

pub returns-in_err-item-clause-gave : goal.returns-in_err-item-clause-gave
returns-in_err-item-clause-gave c = let p = err_from_is_err_and c.from_residual.result c.from_residual.ensures.1 in rw p.1 tt

pub returns-in_err-item-clause-shorter : goal.returns-in_err-item-clause-shorter
returns-in_err-item-clause-shorter c = let p = err_from_is_err_and c.from_residual.result c.from_residual.ensures.1 in rw p.1 tt

pub returns-in_err-push-clause-gave : goal.returns-in_err-push-clause-gave
returns-in_err-push-clause-gave c = let p = err_from_is_err_and c.from_residual-in_err-push.result c.from_residual-in_err-push.ensures.1 in rw p.1 tt

pub returns-in_err-push-clause-shorter : goal.returns-in_err-push-clause-shorter
returns-in_err-push-clause-shorter c = let p = err_from_is_err_and c.from_residual-in_err-push.result c.from_residual-in_err-push.ensures.1 in rw p.1 tt

use Rattle.std.proofs.Common.{refl, ap, arith}
use Rattle.std.proofs.lemmas.Result.{err_from_is_err_and}
use Rattle.ql_grammar.specs.Table.{add_name, to_names}
use Rattle.ql_grammar.specs.Machine.{is_begun}
use Rattle.ql_parse.proofs.Lists.{begins, item_refused, read_all, read_mark}
use Rattle.ql_parse.proofs.reader.Reader.names.Goals as goal

pub names-init : goal.names-init
names-init c = rw c.in_ok-names.ensures.items (omega arith, λ m on. begins to_names (λ below vs. refl) (λ x vs. refl) (omega arith))

pub returns-in_err-name-clause-refused : goal.returns-in_err-name-clause-refused
returns-in_err-name-clause-refused c =
    let p = err_from_is_err_and c.from_residual-in_err-name.result c.from_residual-in_err-name.ensures.1 in
    rw (p.1, p.2) (λ m on. item_refused _ (c.names.invariant.1 m on) c.in_err-name.ensures.refused)

pub names-preserved : goal.names-preserved
names-preserved c = rw c.in_ok-push.ensures.items (
  omega (arith, c.in_ok-name.ensures.shorter, c.passes.ensures.within, c.names.invariant.0),
  λ m on. read_mark (c.names.invariant.1 m on) c.name.new.self c.in_ok-name.name c.in_ok-name.ensures.gave (c.passes.ensures.passed c.if-not-passes.false) add_name on (λ y xs vs. refl) c.in_ok-name.ensures.shorter c.passes.ensures.within,
)

pub returns-then-not-passes-clause-gave : goal.returns-then-not-passes-clause-gave
returns-then-not-passes-clause-gave c = λ m on below vs. rw (c.of.ensures, c.in_ok-push.ensures.items)
    (read_all (c.names.invariant.1 m on) c.name.new.self c.in_ok-name.name c.in_ok-name.ensures.gave (c.passes.ensures.missed c.if-not-passes.true) (λ under. ap (λ st. is_begun st c.name.new.self.tokens) (on under)) below vs)

pub returns-in_err-name-clause-gave : goal.returns-in_err-name-clause-gave
returns-in_err-name-clause-gave c = let p = err_from_is_err_and c.from_residual-in_err-name.result c.from_residual-in_err-name.ensures.1 in rw p.1 tt

pub returns-in_err-name-clause-shorter : goal.returns-in_err-name-clause-shorter
returns-in_err-name-clause-shorter c = let p = err_from_is_err_and c.from_residual-in_err-name.result c.from_residual-in_err-name.ensures.1 in rw p.1 tt

pub returns-in_err-names-clause-gave : goal.returns-in_err-names-clause-gave
returns-in_err-names-clause-gave c = let p = err_from_is_err_and c.from_residual.result c.from_residual.ensures.1 in rw p.1 tt

pub returns-in_err-names-clause-shorter : goal.returns-in_err-names-clause-shorter
returns-in_err-names-clause-shorter c = let p = err_from_is_err_and c.from_residual.result c.from_residual.ensures.1 in rw p.1 tt

pub returns-in_err-push-clause-gave : goal.returns-in_err-push-clause-gave
returns-in_err-push-clause-gave c = let p = err_from_is_err_and c.from_residual-in_err-push.result c.from_residual-in_err-push.ensures.1 in rw p.1 tt

pub returns-in_err-push-clause-shorter : goal.returns-in_err-push-clause-shorter
returns-in_err-push-clause-shorter c = let p = err_from_is_err_and c.from_residual-in_err-push.result c.from_residual-in_err-push.ensures.1 in rw p.1 tt

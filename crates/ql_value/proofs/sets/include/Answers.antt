use Rattle.std.proofs.lemmas.Result.{err_from_is_err_and}
use Rattle.std.proofs.Common.{sym, arith}
use Rattle.ql_value.specs.Order.{scalar_cmp}
use Rattle.ql_value.proofs.Ascending.{stays, inserts}
use Rattle.ql_value.proofs.ScalarOrder.{scalars_total, exact}
use Rattle.ql_value.proofs.Keeping.{set_added}
use Rattle.ql_value.proofs.sets.include.Goals as goal

pub returns-in-Ok-clause-gives : goal.returns-in-Ok-clause-gives
returns-in-Ok-clause-gives c = sym (stays scalar_cmp scalars_total exact c.args.element.now c.args.elements.now.items _ (rw c.deref.ensures.value at c.in-Ok.ensures) c.requires.few)

pub returns-in_ok-insert-in-Err-clause-set : goal.returns-in_ok-insert-in-Err-clause-set
returns-in_ok-insert-in-Err-clause-set c =
    let e = inserts scalar_cmp scalars_total c.args.element.now c.args.elements.now.items c.in-Err.at (rw c.deref.ensures.value at c.in-Err.ensures) (omega (arith, c.args.elements.now.ok.0)) in
    rw (c.in_ok-insert-in-Err.ensures.items, c.in_ok-copy_scalar-in-Err.ensures, e) (set_added c.args.elements.now.items c.args.element.now c.requires)

pub returns-in_err-copy_scalar-in-Err-clause-gives : goal.returns-in_err-copy_scalar-in-Err-clause-gives
returns-in_err-copy_scalar-in-Err-clause-gives c = let p = err_from_is_err_and c.from_residual.result c.from_residual.ensures.1 in rw p.1 tt

pub returns-in_err-copy_scalar-in-Err-clause-set : goal.returns-in_err-copy_scalar-in-Err-clause-set
returns-in_err-copy_scalar-in-Err-clause-set c = let p = err_from_is_err_and c.from_residual.result c.from_residual.ensures.1 in rw p.1 tt

pub returns-in_err-insert-in-Err-clause-gives : goal.returns-in_err-insert-in-Err-clause-gives
returns-in_err-insert-in-Err-clause-gives c = let p = err_from_is_err_and c.from_residual-in_err-insert-in-Err.result c.from_residual-in_err-insert-in-Err.ensures.1 in rw p.1 tt

pub returns-in_err-insert-in-Err-clause-set : goal.returns-in_err-insert-in-Err-clause-set
returns-in_err-insert-in-Err-clause-set c = let p = err_from_is_err_and c.from_residual-in_err-insert-in-Err.result c.from_residual-in_err-insert-in-Err.ensures.1 in rw p.1 tt

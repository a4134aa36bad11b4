use Rattle.std.proofs.lemmas.Result.{err_from_is_err_and}
use Rattle.std.proofs.Common.{sym, subst, List}
use Rattle.ql_exec.specs.declared.effect.Effect.{Effect}
use Rattle.ql_exec.specs.Execution.{IsExecution}
use Rattle.ql_formula.specs.Tables.{Table, IsTableOf}
use Rattle.ql_formula.proofs.TableLaws.{table_of}
use Rattle.ql_formula.proofs.relations.Relations.build.Goals as goal

pub returns : goal.returns
returns c =
    let x = c.effects-effects.result.now in
    let table : Table = record { keys = c.in_ok-keys.keys.items; seen = c.in_ok-vis_rows.field-0.items; before_on_object = c.in_ok-closure_rows.field-0.items; before = c.in_ok-closure_rows-2.field-0.items } in
    subst (λ (y : List Effect). IsTableOf table y) c.effects-effects.ensures.same
    (table_of x table (subst IsExecution (sym c.effects-effects.ensures.same) c.effects-effects.ensures.execution)
    c.in_ok-keys.ensures
    c.in_ok-vis_rows.ensures.count c.in_ok-vis_rows.ensures.rows
    c.in_ok-closure_rows.ensures.count c.in_ok-closure_rows.ensures.rows
    c.in_ok-closure_rows-2.ensures.count c.in_ok-closure_rows-2.ensures.rows)

pub returns-in_err-closure_rows : goal.returns-in_err-closure_rows
returns-in_err-closure_rows c = let p = err_from_is_err_and c.from_residual-in_err-closure_rows.result c.from_residual-in_err-closure_rows.ensures.1 in rw p.1 tt

pub returns-in_err-closure_rows-2 : goal.returns-in_err-closure_rows-2
returns-in_err-closure_rows-2 c = let p = err_from_is_err_and c.from_residual-in_err-closure_rows-2.result c.from_residual-in_err-closure_rows-2.ensures.1 in rw p.1 tt

pub returns-in_err-keys : goal.returns-in_err-keys
returns-in_err-keys c = let p = err_from_is_err_and c.from_residual.result c.from_residual.ensures.1 in rw p.1 tt

pub returns-in_err-vis_rows : goal.returns-in_err-vis_rows
returns-in_err-vis_rows c = let p = err_from_is_err_and c.from_residual-in_err-vis_rows.result c.from_residual-in_err-vis_rows.ensures.1 in rw p.1 tt

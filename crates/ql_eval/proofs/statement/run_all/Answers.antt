use Rattle.std.proofs.Common.{◌∙◌, sym}
use Rattle.ql_eval.proofs.FoldSteps.{more_stmts, no_stmts, stuck_stmt}
use Rattle.ql_eval.proofs.statement.run_all.Goals as goal

pub returns-in-None : goal.returns-in-None
returns-in-None c =
    sym (c.loop-stmt.invariant ∙ stuck_stmt c.loop-stmt.running c.args.stmts.now c.loop-stmt.stmt-index c.stmt-item.result c.loop-stmt-test.true c.stmt-item.is (sym c.in-None.is ∙ c.in_ok-next.ensures))

pub loop-stmt-preserved : goal.loop-stmt-preserved
loop-stmt-preserved c =
    c.loop-stmt.invariant ∙ more_stmts c.loop-stmt.running c.args.stmts.now c.loop-stmt.stmt-index c.stmt-item.result c.in-Some.next c.loop-stmt-test.true c.stmt-item.is (sym c.in-Some.is ∙ c.in_ok-next.ensures)

pub returns : goal.returns
returns c = sym (c.loop-stmt.invariant ∙ no_stmts c.loop-stmt.running c.args.stmts.now c.loop-stmt.stmt-index c.loop-stmt-test.false)

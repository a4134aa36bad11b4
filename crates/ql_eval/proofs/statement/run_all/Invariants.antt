use Rattle.std.proofs.Common.{◌≡◌, drop}
use Rattle.ql_eval.specs.Folds.{after_stmts}
use Rattle.ql_eval.proofs.statement.run_all.Given as goal

abbrev pub invariant-loop-stmt : goal.invariant-loop-stmt
invariant-loop-stmt l = after_stmts l.fn.begun l.stmts ≡ after_stmts l.running (drop l.stmt-index l.stmts)

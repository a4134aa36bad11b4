use Rattle.std.proofs.Common.{◌≡◌, ◌++◌}
use Rattle.ql_base.specs.Ranges.{upto}
use Rattle.ql_report.specs.Levels.{op_line}
use Rattle.ql_report.proofs.levels.push_ops.Given as goal

abbrev pub invariant-loop-o : goal.invariant-loop-o
invariant-loop-o l = l.out.items ≡ l.initial.out.items ++ upto l.o (op_line l.t.program l.l)

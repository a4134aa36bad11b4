use Rattle.std.proofs.Common.{◌≡◌, ◌++◌}
use Rattle.ql_base.specs.Ranges.{upto}
use Rattle.ql_report.specs.Levels.{txn_line}
use Rattle.ql_report.proofs.levels.push_txns.Given as goal

abbrev pub invariant-loop-d : goal.invariant-loop-d
invariant-loop-d l = l.out.items ≡ l.initial.out.items ++ upto l.d (txn_line l.t.program l.l)

use Rattle.std.proofs.Common.{◌≡◌, ◌++◌}
use Rattle.ql_base.specs.Ranges.{upto}
use Rattle.ql_report.specs.Atoms.{row_text}
use Rattle.ql_report.specs.Report.{reported_of}
use Rattle.ql_report.proofs.atoms.push_relation.Given as goal

abbrev pub invariant-loop-i : goal.invariant-loop-i
invariant-loop-i l = l.out.items ≡ l.initial.out.items ++ upto l.i (row_text (reported_of l.reported) l.kind)

use Rattle.std.proofs.Common.{◌≡◌, ◌++◌}
use Rattle.ql_base.specs.Ranges.{upto}
use Rattle.ql_atoms.specs.declared.atoms.Atom.TheVariants.{Pair}
use Rattle.ql_report.specs.Atoms.{reported_atom}
use Rattle.ql_report.specs.Report.{reported_of}
use Rattle.ql_report.proofs.atoms.push_row.Given as goal

abbrev pub invariant-loop-j : goal.invariant-loop-j
invariant-loop-j l = l.out.items ≡ l.initial.out.items ++ upto l.j (λ j. reported_atom (reported_of l.reported) (Pair l.kind l.i j))

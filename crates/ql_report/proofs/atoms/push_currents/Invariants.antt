use Rattle.std.proofs.Common.{◌≡◌, ◌++◌}
use Rattle.ql_base.specs.Ranges.{upto}
use Rattle.ql_atoms.specs.declared.atoms.Atom.TheVariants.{Current}
use Rattle.ql_report.specs.Atoms.{reported_atom}
use Rattle.ql_report.specs.Report.{reported_of}
use Rattle.ql_report.proofs.atoms.push_currents.Given as goal

abbrev pub invariant-loop-i : goal.invariant-loop-i
invariant-loop-i l = l.out.items ≡ l.initial.out.items ++ upto l.i (λ i. reported_atom (reported_of l.reported) (Current i))

-- What is reported of an assignment, as data.
use Rattle.ql_atoms.specs.Atoms.{size_of}
use Rattle.ql_report.specs.Atoms.{Reported}
use Rattle.ql_report.specs.declared.atoms.Report.{Report}

abbrev pub reported_of : Report → Reported
reported_of t = record { program = t.typed.now.program; vars = t.vars.now; size = size_of t.shape; values = t.values.now }

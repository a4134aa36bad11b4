use Rattle.std.proofs.Common.{◌≡◌, ◌++◌, length}
use Rattle.std.specs.List.{AllByRecursion}
use Rattle.ql_lines.specs.Fields.{fields_of}
use Rattle.ql_cnf.specs.Literals.{IsAscendingByVariable}
use Rattle.ql_cert.specs.Spelling.{IsLit, clause_fields}
use Rattle.ql_cert.proofs.line.literals.Given as goal

abbrev pub invariant-loop-field : goal.invariant-loop-field
invariant-loop-field l =
    (fields_of l.text ≡ clause_fields l.literals.items ++ fields_of l.rest) × AllByRecursion IsLit l.literals.items × IsAscendingByVariable l.literals.items

abbrev pub decreases-loop-field : goal.decreases-loop-field
decreases-loop-field l = length (fields_of l.rest)

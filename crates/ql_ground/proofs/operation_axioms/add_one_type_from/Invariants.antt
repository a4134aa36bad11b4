use Rattle.std.proofs.Common.{◌≡◌, ◌++◌}
use Rattle.ql_atoms.specs.Atoms.{size_of}
use Rattle.ql_cnf.specs.Circuits.{clauses_of}
use Rattle.ql_base.specs.Ranges.{upto}
use Rattle.ql_ground.specs.Parts.{one_type_between}
use Rattle.ql_ground.proofs.operation_axioms.add_one_type_from.Given as goal

abbrev pub invariant-loop-j : goal.invariant-loop-j
invariant-loop-j l = record {
  clauses : l.c.clauses ≡ l.initial.c.clauses ++ clauses_of (upto l.j (λ j. one_type_between l.types (size_of l.s) l.i j));
  variables : l.c.variables ≡ l.initial.c.variables;
}

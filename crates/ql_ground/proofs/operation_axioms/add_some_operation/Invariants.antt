use Rattle.std.proofs.Common.{◌≡◌, ◌++◌}
use Rattle.ql_atoms.specs.Atoms.{size_of}
use Rattle.ql_cnf.specs.Circuits.{clauses_of}
use Rattle.ql_base.specs.Ranges.{upto}
use Rattle.ql_ground.specs.Parts.{some_operation_of}
use Rattle.ql_ground.proofs.operation_axioms.add_some_operation.Given as goal

abbrev pub invariant-loop-i : goal.invariant-loop-i
invariant-loop-i l = record {
  clauses : l.c.clauses ≡ l.initial.c.clauses ++ clauses_of (upto l.i (λ i. some_operation_of (size_of l.s) i));
  variables : l.c.variables ≡ l.initial.c.variables;
}

use Rattle.std.proofs.Common.{◌≡◌, ◌++◌}
use Rattle.ql_atoms.specs.Atoms.{size_of}
use Rattle.ql_cnf.specs.Circuits.{clauses_of}
use Rattle.ql_base.specs.Ranges.{upto}
use Rattle.ql_ground.specs.Parts.{not_another}
use Rattle.ql_ground.proofs.operation_axioms.add_one_operation_of.Given as goal

abbrev pub invariant-loop-o : goal.invariant-loop-o
invariant-loop-o l = record {
  clauses : l.c.clauses ≡ l.initial.c.clauses ++ clauses_of (upto l.o (λ o. not_another (size_of l.s) l.i o));
  variables : l.c.variables ≡ l.initial.c.variables;
}

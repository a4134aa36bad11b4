use Rattle.std.proofs.Common.{◌≡◌, ◌++◌}
use Rattle.ql_atoms.specs.Atoms.{size_of}
use Rattle.ql_cnf.specs.Circuits.{clauses_of}
use Rattle.ql_base.specs.Ranges.{upto}
use Rattle.ql_ground.specs.Parts.{not_both}
use Rattle.ql_ground.proofs.operation_axioms.add_not_another.Given as goal

abbrev pub invariant-loop-p : goal.invariant-loop-p
invariant-loop-p l = record {
  clauses : l.c.clauses ≡ l.initial.c.clauses ++ clauses_of (upto l.p (λ p. not_both (size_of l.s) l.i l.o p));
  variables : l.c.variables ≡ l.initial.c.variables;
}

use Rattle.std.proofs.Common.{◌≡◌, ◌++◌}
use Rattle.ql_atoms.specs.Atoms.{size_of}
use Rattle.ql_base.specs.Ranges.{upto}
use Rattle.ql_cnf.specs.Circuits.{clauses_of}
use Rattle.ql_relative.specs.Relative.{kept_of}
use Rattle.ql_relative.proofs.kept.add_operations.Given as goal

abbrev pub invariant-loop-effect : goal.invariant-loop-effect
invariant-loop-effect l = record {
  clauses : l.c.clauses ≡ l.initial.c.clauses ++ clauses_of (upto l.effect (kept_of l.levels (size_of l.s)));
  variables : l.c.variables ≡ l.initial.c.variables;
}

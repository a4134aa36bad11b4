use Rattle.std.proofs.Common.{◌≡◌, ◌++◌}
use Rattle.ql_atoms.specs.Atoms.{size_of}
use Rattle.ql_base.specs.Ids.{op}
use Rattle.ql_base.specs.Ranges.{upto}
use Rattle.ql_cnf.specs.Circuits.{clauses_of}
use Rattle.ql_relative.specs.Keeping.{op_level}
use Rattle.ql_relative.specs.Relative.{kept_at}
use Rattle.ql_relative.proofs.kept.add_kept_of.Given as goal

abbrev pub invariant-loop-o : goal.invariant-loop-o
invariant-loop-o l = record {
  clauses : l.c.clauses ≡ l.initial.c.clauses ++ clauses_of (upto l.o (λ o. kept_at (size_of l.s) l.effect (op o) (op_level l.levels o)));
  variables : l.c.variables ≡ l.initial.c.variables;
}

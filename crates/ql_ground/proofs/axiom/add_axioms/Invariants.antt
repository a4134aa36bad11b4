use Rattle.std.proofs.Common.{◌≡◌, ◌++◌, map, take}
use Rattle.ql_atoms.specs.Atoms.{size_of}
use Rattle.ql_cnf.specs.Circuits.{clauses_of}
use Rattle.ql_ground.specs.Ground.{all_instances}
use Rattle.ql_ground.specs.Parts.{axiom_of}
use Rattle.ql_ground.proofs.axiom.add_axioms.Given as goal

abbrev pub invariant-loop-name : goal.invariant-loop-name
invariant-loop-name l = record {
  clauses : l.c.clauses ≡ l.initial.c.clauses ++ clauses_of (all_instances (size_of l.s) (map axiom_of (take l.name-index l.names)));
  variables : l.c.variables ≡ l.initial.c.variables;
}

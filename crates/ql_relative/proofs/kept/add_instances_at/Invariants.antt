use Rattle.std.proofs.Common.{◌≡◌, ◌++◌, ◌∷◌, []}
use Rattle.ql_atoms.specs.Atoms.{size_of}
use Rattle.ql_base.specs.Ranges.{upto}
use Rattle.ql_cnf.specs.Circuits.{clauses_of}
use Rattle.ql_ground.specs.Parts.{instance, rule_of}
use Rattle.ql_relative.proofs.kept.add_instances_at.Given as goal

abbrev pub invariant-loop-second : goal.invariant-loop-second
invariant-loop-second l = record {
  clauses : l.c.clauses ≡ l.initial.c.clauses ++ clauses_of (upto l.second (λ second. instance (size_of l.s) (rule_of l.r) (l.first ∷ second ∷ [])));
  variables : l.c.variables ≡ l.initial.c.variables;
}

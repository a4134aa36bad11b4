use Rattle.std.proofs.Common.{◌≡◌, ◌+◌, ◌-◌, ◌++◌, ◌∷◌, [], take}
use Rattle.ql_atoms.specs.Atoms.{size_of}
use Rattle.ql_cnf.specs.Circuits.{clauses_of}
use Rattle.ql_base.specs.Ranges.{upto}
use Rattle.ql_ground.specs.Parts.{rule_of, instance}
use Rattle.ql_ground.proofs.Growth.{from}
use Rattle.ql_ground.proofs.rule.+add_choices.Given as goal

abbrev pub decreases-add_choices : goal.decreases-add_choices
decreases-add_choices l = l.r.now.places - l.depth

abbrev pub invariant-loop-k : goal.invariant-loop-k
invariant-loop-k l = record {
  clauses : l.c.clauses ≡ l.initial.c.clauses ++ clauses_of (upto l.k (λ first. from l.s.constants (l.r.places - (l.depth + 1)) (instance (size_of l.s) (rule_of l.r)) (take l.depth l.chosen ++ first ∷ [])));
  variables : l.c.variables ≡ l.initial.c.variables;
}

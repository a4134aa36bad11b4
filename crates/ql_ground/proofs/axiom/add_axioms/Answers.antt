use Rattle.std.proofs.Common.{◌∙◌}
use Rattle.ql_atoms.specs.Atoms.{size_of}
use Rattle.ql_ground.specs.Parts.{axiom_of}
use Rattle.ql_ground.proofs.Growth.{rules_more}
use Rattle.ql_ground.proofs.axiom.add_axioms.Goals as goal

pub loop-name-preserved : goal.loop-name-preserved
loop-name-preserved c = record {
  clauses = rules_more (size_of c.args.s) axiom_of c.args.c.now.clauses c.loop-name.c.clauses c.add_axiom.new.c.clauses c.args.names.now c.loop-name.name-index _ c.loop-name-test.true c.loop-name.invariant.clauses c.in_ok-add_axiom.ensures.clauses;
  variables = c.in_ok-add_axiom.ensures.variables ∙ c.loop-name.invariant.variables;
}

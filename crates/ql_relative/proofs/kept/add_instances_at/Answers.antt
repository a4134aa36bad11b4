use Rattle.std.proofs.Common.{arith, ◌∷◌, [], ◌∙◌}
use Rattle.ql_atoms.specs.Atoms.{size_of}
use Rattle.ql_ground.specs.Parts.{instance, rule_of}
use Rattle.ql_ground.proofs.Growth.{upto_more, upto_done}
use Rattle.ql_relative.proofs.kept.add_instances_at.Goals as goal

pub loop-second-preserved : goal.loop-second-preserved
loop-second-preserved c = record {
  clauses = upto_more (λ second. instance (size_of c.args.s) (rule_of c.args.r.now) (c.args.first ∷ second ∷ [])) c.args.c.now.clauses c.loop-second.c.clauses c.add_instance.new.c.clauses c.loop-second.second c.loop-second.invariant.clauses c.in_ok-add_instance.ensures.clauses;
  variables = c.in_ok-add_instance.ensures.variables ∙ c.loop-second.invariant.variables;
}

pub returns-clause-clauses : goal.returns-clause-clauses
returns-clause-clauses c = upto_done (λ second. instance (size_of c.args.s) (rule_of c.args.r.now) (c.args.first ∷ second ∷ [])) c.args.c.now.clauses c.loop-second.c.clauses c.loop-second.second c.args.s.constants (omega arith) c.loop-second.invariant.clauses

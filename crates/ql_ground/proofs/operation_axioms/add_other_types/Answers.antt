use Rattle.std.proofs.Common.{arith, ◌∙◌}
use Rattle.ql_atoms.specs.Atoms.{size_of}
use Rattle.ql_ground.specs.Parts.{other_type}
use Rattle.ql_ground.proofs.Growth.{upto_more, upto_done}
use Rattle.ql_ground.proofs.operation_axioms.add_other_types.Goals as goal

pub loop-p-preserved : goal.loop-p-preserved
loop-p-preserved c = record {
  clauses = upto_more (λ p. other_type c.args.types.now (size_of c.args.s) c.args.i c.args.j c.args.o p) c.args.c.now.clauses c.loop-p.c.clauses c.add_other_type.new.c.clauses c.loop-p.p c.loop-p.invariant.clauses c.in_ok-add_other_type.ensures.clauses;
  variables = c.in_ok-add_other_type.ensures.variables ∙ c.loop-p.invariant.variables;
}

pub returns-clause-clauses : goal.returns-clause-clauses
returns-clause-clauses c = upto_done (λ p. other_type c.args.types.now (size_of c.args.s) c.args.i c.args.j c.args.o p) c.args.c.now.clauses c.loop-p.c.clauses c.loop-p.p c.args.s.operations (omega arith) c.loop-p.invariant.clauses

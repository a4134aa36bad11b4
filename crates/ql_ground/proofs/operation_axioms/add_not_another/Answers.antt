use Rattle.std.proofs.Common.{arith, ◌∙◌}
use Rattle.ql_atoms.specs.Atoms.{size_of}
use Rattle.ql_ground.specs.Parts.{not_both}
use Rattle.ql_ground.proofs.Growth.{upto_more, upto_done}
use Rattle.ql_ground.proofs.operation_axioms.add_not_another.Goals as goal

pub loop-p-preserved : goal.loop-p-preserved
loop-p-preserved c = record {
  clauses = upto_more (λ p. not_both (size_of c.args.s) c.args.i c.args.o p) c.args.c.now.clauses c.loop-p.c.clauses c.add_not_both.new.c.clauses c.loop-p.p c.loop-p.invariant.clauses c.in_ok-add_not_both.ensures.clauses;
  variables = c.in_ok-add_not_both.ensures.variables ∙ c.loop-p.invariant.variables;
}

pub returns-clause-clauses : goal.returns-clause-clauses
returns-clause-clauses c = upto_done (λ p. not_both (size_of c.args.s) c.args.i c.args.o p) c.args.c.now.clauses c.loop-p.c.clauses c.loop-p.p c.args.s.operations (omega arith) c.loop-p.invariant.clauses

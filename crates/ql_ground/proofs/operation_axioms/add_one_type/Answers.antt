use Rattle.std.proofs.Common.{arith, ◌∙◌}
use Rattle.ql_atoms.specs.Atoms.{size_of}
use Rattle.ql_ground.specs.Parts.{one_type_from}
use Rattle.ql_ground.proofs.Growth.{upto_more, upto_done}
use Rattle.ql_ground.proofs.operation_axioms.add_one_type.Goals as goal

pub loop-i-preserved : goal.loop-i-preserved
loop-i-preserved c = record {
  clauses = upto_more (λ i. one_type_from c.args.types.now (size_of c.args.s) i) c.args.c.now.clauses c.loop-i.c.clauses c.add_one_type_from.new.c.clauses c.loop-i.i c.loop-i.invariant.clauses c.in_ok-add_one_type_from.ensures.clauses;
  variables = c.in_ok-add_one_type_from.ensures.variables ∙ c.loop-i.invariant.variables;
}

pub returns-clause-clauses : goal.returns-clause-clauses
returns-clause-clauses c = upto_done (λ i. one_type_from c.args.types.now (size_of c.args.s) i) c.args.c.now.clauses c.loop-i.c.clauses c.loop-i.i c.args.s.constants (omega arith) c.loop-i.invariant.clauses

use Rattle.std.proofs.Common.{arith, ◌∙◌}
use Rattle.ql_atoms.specs.Atoms.{size_of}
use Rattle.ql_ground.specs.Parts.{one_type_between}
use Rattle.ql_ground.proofs.Growth.{upto_more, upto_done}
use Rattle.ql_ground.proofs.operation_axioms.add_one_type_from.Goals as goal

pub loop-j-preserved : goal.loop-j-preserved
loop-j-preserved c = record {
  clauses = upto_more (λ j. one_type_between c.args.types.now (size_of c.args.s) c.args.i j) c.args.c.now.clauses c.loop-j.c.clauses c.add_one_type_between.new.c.clauses c.loop-j.j c.loop-j.invariant.clauses c.in_ok-add_one_type_between.ensures.clauses;
  variables = c.in_ok-add_one_type_between.ensures.variables ∙ c.loop-j.invariant.variables;
}

pub returns-clause-clauses : goal.returns-clause-clauses
returns-clause-clauses c = upto_done (λ j. one_type_between c.args.types.now (size_of c.args.s) c.args.i j) c.args.c.now.clauses c.loop-j.c.clauses c.loop-j.j c.args.s.constants (omega arith) c.loop-j.invariant.clauses

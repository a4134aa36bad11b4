use Rattle.std.proofs.Common.{arith, ◌∙◌}
use Rattle.ql_atoms.specs.Atoms.{size_of}
use Rattle.ql_ground.specs.Parts.{other_types}
use Rattle.ql_ground.proofs.Growth.{upto_more, upto_done}
use Rattle.ql_ground.proofs.operation_axioms.add_one_type_between.Goals as goal

pub loop-o-preserved : goal.loop-o-preserved
loop-o-preserved c = record {
  clauses = upto_more (λ o. other_types c.args.types.now (size_of c.args.s) c.args.i c.args.j o) c.args.c.now.clauses c.loop-o.c.clauses c.add_other_types.new.c.clauses c.loop-o.o c.loop-o.invariant.clauses c.in_ok-add_other_types.ensures.clauses;
  variables = c.in_ok-add_other_types.ensures.variables ∙ c.loop-o.invariant.variables;
}

pub returns-clause-clauses : goal.returns-clause-clauses
returns-clause-clauses c = upto_done (λ o. other_types c.args.types.now (size_of c.args.s) c.args.i c.args.j o) c.args.c.now.clauses c.loop-o.c.clauses c.loop-o.o c.args.s.operations (omega arith) c.loop-o.invariant.clauses

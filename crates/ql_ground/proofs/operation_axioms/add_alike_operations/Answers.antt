use Rattle.std.proofs.Common.{arith, ap, ◌++◌, ◌∙◌}
use Rattle.ql_atoms.specs.Atoms.{size_of}
use Rattle.ql_base.specs.Ids.{op}
use Rattle.ql_cnf.specs.Circuits.{clauses_of}
use Rattle.ql_ground.specs.Ground.{instances}
use Rattle.ql_ground.specs.Rules.{Rule, alike_op}
use Rattle.ql_ground.proofs.Growth.{upto_more, upto_done}
use Rattle.ql_ground.proofs.operation_axioms.add_alike_operations.Goals as goal

pub loop-o-preserved : goal.loop-o-preserved
loop-o-preserved c = record {
  clauses = upto_more (λ o. instances (size_of c.args.s) (alike_op (op o))) c.args.c.now.clauses c.loop-o.c.clauses c.add_rule.new.c.clauses c.loop-o.o c.loop-o.invariant.clauses
      (c.in_ok-add_rule.ensures.clauses ∙ ap (λ (r : Rule). c.loop-o.c.clauses ++ clauses_of (instances (size_of c.args.s) r)) c.over.ensures);
  variables = c.in_ok-add_rule.ensures.variables ∙ c.loop-o.invariant.variables;
}

pub returns-clause-clauses : goal.returns-clause-clauses
returns-clause-clauses c = upto_done (λ o. instances (size_of c.args.s) (alike_op (op o))) c.args.c.now.clauses c.loop-o.c.clauses c.loop-o.o c.args.s.operations (omega arith) c.loop-o.invariant.clauses

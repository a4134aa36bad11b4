use Rattle.std.proofs.lemmas.Result.{err_from_is_err_and}
use Rattle.std.proofs.Common.{◌++◌, ◌∷◌, [], List, arith, ◌∙◌, ap}
use Rattle.ql_atoms.specs.Atoms.{size_of}
use Rattle.ql_cnf.specs.Circuits.{clauses_of}
use Rattle.ql_cnf.specs.declared.lit.Lit.{Lit}
use Rattle.ql_ground.specs.Parts.{some_operation_of}
use Rattle.ql_ground.proofs.Growth.{upto_more, upto_done}
use Rattle.ql_ground.proofs.operation_axioms.add_some_operation.Goals as goal

pub loop-i-preserved : goal.loop-i-preserved
loop-i-preserved c = record {
  clauses = upto_more (λ i. some_operation_of (size_of c.args.s) i) c.args.c.now.clauses c.loop-i.c.clauses c.add_clause.new.c.clauses c.loop-i.i c.loop-i.invariant.clauses
      (c.in_ok-add_clause.ensures.clauses ∙ ap (λ (x : List Lit). c.loop-i.c.clauses ++ clauses_of (x ∷ [])) (c.deref.ensures.value ∙ c.in_ok-push_operations.ensures.lits));
  variables = c.in_ok-add_clause.ensures.variables ∙ c.loop-i.invariant.variables;
}

pub returns-clause-clauses : goal.returns-clause-clauses
returns-clause-clauses c = upto_done (λ i. some_operation_of (size_of c.args.s) i) c.args.c.now.clauses c.loop-i.c.clauses c.loop-i.i c.args.s.constants (omega arith) c.loop-i.invariant.clauses

pub returns-in_err-lits-clause-clauses : goal.returns-in_err-lits-clause-clauses
returns-in_err-lits-clause-clauses c = let p = err_from_is_err_and c.from_residual.result c.from_residual.ensures.1 in rw p.1 tt

pub returns-in_err-push_operations-clause-clauses : goal.returns-in_err-push_operations-clause-clauses
returns-in_err-push_operations-clause-clauses c = let p = err_from_is_err_and c.from_residual-in_err-push_operations.result c.from_residual-in_err-push_operations.ensures.1 in rw p.1 tt

pub returns-in_err-add_clause-clause-clauses : goal.returns-in_err-add_clause-clause-clauses
returns-in_err-add_clause-clause-clauses c = let p = err_from_is_err_and c.from_residual-in_err-add_clause.result c.from_residual-in_err-add_clause.ensures.1 in rw p.1 tt

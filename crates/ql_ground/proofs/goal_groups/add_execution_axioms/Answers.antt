use Rattle.std.proofs.Common.{◌≡◌, ◌++◌}
use Rattle.std.proofs.lemmas.Result.{err_from_is_err_and, on_ok_weaker}
use Rattle.ql_atoms.specs.Atoms.{size_of}
use Rattle.ql_cnf.specs.Circuits.{clauses_of}
use Rattle.ql_ground.specs.Ground.{some_operation, one_operation, one_type}
use Rattle.ql_ground.specs.Parts.{relation_axioms}
use Rattle.ql_ground.proofs.Growth.{then}
use Rattle.ql_ground.proofs.goal_groups.add_execution_axioms.Goals as goal

pub returns-clause-clauses : goal.returns-clause-clauses
returns-clause-clauses c = on_ok_weaker c.add_one_type.result
    (λ (h : c.add_one_type.new.c.clauses ≡ c.add_one_operation.new.c.clauses ++ clauses_of (one_type c.args.types.now (size_of c.args.s))).
    then c.args.c.now.clauses c.add_one_operation.new.c.clauses c.add_one_type.new.c.clauses (relation_axioms (size_of c.args.s) ++ some_operation (size_of c.args.s) ++ one_operation (size_of c.args.s)) (one_type c.args.types.now (size_of c.args.s))
    (then c.args.c.now.clauses c.add_some_operation.new.c.clauses c.add_one_operation.new.c.clauses (relation_axioms (size_of c.args.s) ++ some_operation (size_of c.args.s)) (one_operation (size_of c.args.s))
    (then c.args.c.now.clauses c.add_relations.new.c.clauses c.add_some_operation.new.c.clauses (relation_axioms (size_of c.args.s)) (some_operation (size_of c.args.s))
    c.in_ok-add_relations.ensures.clauses
    c.in_ok-add_some_operation.ensures.clauses)
    c.in_ok-add_one_operation.ensures.clauses)
    h)
    c.add_one_type.ensures.clauses

pub returns-in_err-add_relations-clause-clauses : goal.returns-in_err-add_relations-clause-clauses
returns-in_err-add_relations-clause-clauses c = let p = err_from_is_err_and c.from_residual.result c.from_residual.ensures.1 in rw p.1 tt

pub returns-in_err-add_some_operation-clause-clauses : goal.returns-in_err-add_some_operation-clause-clauses
returns-in_err-add_some_operation-clause-clauses c = let p = err_from_is_err_and c.from_residual-in_err-add_some_operation.result c.from_residual-in_err-add_some_operation.ensures.1 in rw p.1 tt

pub returns-in_err-add_one_operation-clause-clauses : goal.returns-in_err-add_one_operation-clause-clauses
returns-in_err-add_one_operation-clause-clauses c = let p = err_from_is_err_and c.from_residual-in_err-add_one_operation.result c.from_residual-in_err-add_one_operation.ensures.1 in rw p.1 tt

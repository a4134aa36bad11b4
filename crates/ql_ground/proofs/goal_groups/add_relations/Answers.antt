use Rattle.std.proofs.Common.{◌≡◌, ◌++◌}
use Rattle.std.proofs.lemmas.Result.{err_from_is_err_and, on_ok_weaker}
use Rattle.ql_atoms.specs.Atoms.{size_of}
use Rattle.ql_cnf.specs.Circuits.{clauses_of}
use Rattle.ql_ground.specs.Ground.{all_instances}
use Rattle.ql_ground.specs.Rules.{session_rules, object_rules, object_order_rules, order_rules}
use Rattle.ql_ground.proofs.Growth.{then}
use Rattle.ql_ground.proofs.goal_groups.add_relations.Goals as goal

pub returns-clause-clauses : goal.returns-clause-clauses
returns-clause-clauses c = on_ok_weaker c.add_axioms-4.result
    (λ (h : c.add_axioms-4.new.c.clauses ≡ c.add_axioms-3.new.c.clauses ++ clauses_of (all_instances (size_of c.args.s) order_rules)).
    then c.args.c.now.clauses c.add_axioms-3.new.c.clauses c.add_axioms-4.new.c.clauses (all_instances (size_of c.args.s) session_rules ++ all_instances (size_of c.args.s) object_rules ++ all_instances (size_of c.args.s) object_order_rules) (all_instances (size_of c.args.s) order_rules)
    (then c.args.c.now.clauses c.add_axioms-2.new.c.clauses c.add_axioms-3.new.c.clauses (all_instances (size_of c.args.s) session_rules ++ all_instances (size_of c.args.s) object_rules) (all_instances (size_of c.args.s) object_order_rules)
    (then c.args.c.now.clauses c.add_axioms.new.c.clauses c.add_axioms-2.new.c.clauses (all_instances (size_of c.args.s) session_rules) (all_instances (size_of c.args.s) object_rules)
    c.in_ok-add_axioms.ensures.clauses
    c.in_ok-add_axioms-2.ensures.clauses)
    c.in_ok-add_axioms-3.ensures.clauses)
    h)
    c.add_axioms-4.ensures.clauses

pub returns-in_err-add_axioms-clause-clauses : goal.returns-in_err-add_axioms-clause-clauses
returns-in_err-add_axioms-clause-clauses c = let p = err_from_is_err_and c.from_residual.result c.from_residual.ensures.1 in rw p.1 tt

pub returns-in_err-add_axioms-2-clause-clauses : goal.returns-in_err-add_axioms-2-clause-clauses
returns-in_err-add_axioms-2-clause-clauses c = let p = err_from_is_err_and c.from_residual-in_err-add_axioms-2.result c.from_residual-in_err-add_axioms-2.ensures.1 in rw p.1 tt

pub returns-in_err-add_axioms-3-clause-clauses : goal.returns-in_err-add_axioms-3-clause-clauses
returns-in_err-add_axioms-3-clause-clauses c = let p = err_from_is_err_and c.from_residual-in_err-add_axioms-3.result c.from_residual-in_err-add_axioms-3.ensures.1 in rw p.1 tt

use Rattle.std.proofs.Common.{◌≡◌, ◌++◌, ◌∙◌}
use Rattle.std.proofs.lemmas.Result.{err_from_is_err_and, on_ok_weaker}
use Rattle.ql_atoms.specs.Atoms.{size_of}
use Rattle.ql_cnf.specs.Circuits.{clauses_of}
use Rattle.ql_ground.specs.Ground.{instances, all_instances, alike_operations, axioms, all_variable_operations}
use Rattle.ql_ground.specs.Rules.{equality_rules, alike_current, transaction_rules, txn_level_rules}
use Rattle.ql_ground.proofs.Growth.{then}
use Rattle.ql_ground.proofs.goal_groups.add_txn_groups.Goals as goal

pub returns-in_err-add_axioms-clause-variables : goal.returns-in_err-add_axioms-clause-variables
returns-in_err-add_axioms-clause-variables c = c.in_err-add_axioms.ensures.variables

pub add_alike_operations-requires : goal.add_alike_operations-requires
add_alike_operations-requires c = record { variables = c.in_ok-add_axioms.ensures.variables ∙ c.requires.variables }

pub returns-in_err-add_alike_operations-clause-variables : goal.returns-in_err-add_alike_operations-clause-variables
returns-in_err-add_alike_operations-clause-variables c = c.in_err-add_alike_operations.ensures.variables ∙ c.in_ok-add_axioms.ensures.variables

pub add_axiom-requires : goal.add_axiom-requires
add_axiom-requires c = record { variables = c.in_ok-add_alike_operations.ensures.variables ∙ c.in_ok-add_axioms.ensures.variables ∙ c.requires.variables }

pub returns-in_err-add_axiom-clause-variables : goal.returns-in_err-add_axiom-clause-variables
returns-in_err-add_axiom-clause-variables c = c.in_err-add_axiom.ensures.variables ∙ c.in_ok-add_alike_operations.ensures.variables ∙ c.in_ok-add_axioms.ensures.variables

pub add_execution_axioms-requires-clause-variables : goal.add_execution_axioms-requires-clause-variables
add_execution_axioms-requires-clause-variables c = c.in_ok-add_axiom.ensures.variables ∙ c.in_ok-add_alike_operations.ensures.variables ∙ c.in_ok-add_axioms.ensures.variables ∙ c.requires.variables

pub returns-in_err-add_execution_axioms-clause-variables : goal.returns-in_err-add_execution_axioms-clause-variables
returns-in_err-add_execution_axioms-clause-variables c = c.in_err-add_execution_axioms.ensures.variables ∙ c.in_ok-add_axiom.ensures.variables ∙ c.in_ok-add_alike_operations.ensures.variables ∙ c.in_ok-add_axioms.ensures.variables

pub add_axioms-requires-2 : goal.add_axioms-requires-2
add_axioms-requires-2 c = record { variables = c.in_ok-add_execution_axioms.ensures.variables ∙ c.in_ok-add_axiom.ensures.variables ∙ c.in_ok-add_alike_operations.ensures.variables ∙ c.in_ok-add_axioms.ensures.variables ∙ c.requires.variables }

pub returns-in_err-add_axioms-2-clause-variables : goal.returns-in_err-add_axioms-2-clause-variables
returns-in_err-add_axioms-2-clause-variables c = c.in_err-add_axioms-2.ensures.variables ∙ c.in_ok-add_execution_axioms.ensures.variables ∙ c.in_ok-add_axiom.ensures.variables ∙ c.in_ok-add_alike_operations.ensures.variables ∙ c.in_ok-add_axioms.ensures.variables

pub add_txn_level-requires : goal.add_txn_level-requires
add_txn_level-requires c = record { variables = c.in_ok-add_axioms-2.ensures.variables ∙ c.in_ok-add_execution_axioms.ensures.variables ∙ c.in_ok-add_axiom.ensures.variables ∙ c.in_ok-add_alike_operations.ensures.variables ∙ c.in_ok-add_axioms.ensures.variables ∙ c.requires.variables }

pub returns-in_err-add_txn_level-clause-variables : goal.returns-in_err-add_txn_level-clause-variables
returns-in_err-add_txn_level-clause-variables c = c.in_err-add_txn_level.ensures.variables ∙ c.in_ok-add_axioms-2.ensures.variables ∙ c.in_ok-add_execution_axioms.ensures.variables ∙ c.in_ok-add_axiom.ensures.variables ∙ c.in_ok-add_alike_operations.ensures.variables ∙ c.in_ok-add_axioms.ensures.variables

pub add_variables-requires-clause-variables : goal.add_variables-requires-clause-variables
add_variables-requires-clause-variables c = c.in_ok-add_txn_level.ensures.variables ∙ c.in_ok-add_axioms-2.ensures.variables ∙ c.in_ok-add_execution_axioms.ensures.variables ∙ c.in_ok-add_axiom.ensures.variables ∙ c.in_ok-add_alike_operations.ensures.variables ∙ c.in_ok-add_axioms.ensures.variables ∙ c.requires.variables

pub returns-clause-variables : goal.returns-clause-variables
returns-clause-variables c = c.add_variables.ensures.variables ∙ c.in_ok-add_txn_level.ensures.variables ∙ c.in_ok-add_axioms-2.ensures.variables ∙ c.in_ok-add_execution_axioms.ensures.variables ∙ c.in_ok-add_axiom.ensures.variables ∙ c.in_ok-add_alike_operations.ensures.variables ∙ c.in_ok-add_axioms.ensures.variables

pub returns-clause-clauses : goal.returns-clause-clauses
returns-clause-clauses c = on_ok_weaker c.add_variables.result
    (λ (h : c.add_variables.new.c.clauses ≡ c.add_txn_level.new.c.clauses ++ clauses_of (all_variable_operations (size_of c.args.s) 0 c.args.variables.now)).
    then c.args.c.now.clauses c.add_txn_level.new.c.clauses c.add_variables.new.c.clauses (all_instances (size_of c.args.s) equality_rules ++ alike_operations (size_of c.args.s) ++ instances (size_of c.args.s) alike_current ++ axioms c.args.types.now (size_of c.args.s) ++ all_instances (size_of c.args.s) transaction_rules ++ all_instances (size_of c.args.s) (txn_level_rules c.args.level)) (all_variable_operations (size_of c.args.s) 0 c.args.variables.now)
    (then c.args.c.now.clauses c.add_axioms-2.new.c.clauses c.add_txn_level.new.c.clauses (all_instances (size_of c.args.s) equality_rules ++ alike_operations (size_of c.args.s) ++ instances (size_of c.args.s) alike_current ++ axioms c.args.types.now (size_of c.args.s) ++ all_instances (size_of c.args.s) transaction_rules) (all_instances (size_of c.args.s) (txn_level_rules c.args.level))
    (then c.args.c.now.clauses c.add_execution_axioms.new.c.clauses c.add_axioms-2.new.c.clauses (all_instances (size_of c.args.s) equality_rules ++ alike_operations (size_of c.args.s) ++ instances (size_of c.args.s) alike_current ++ axioms c.args.types.now (size_of c.args.s)) (all_instances (size_of c.args.s) transaction_rules)
    (then c.args.c.now.clauses c.add_axiom.new.c.clauses c.add_execution_axioms.new.c.clauses (all_instances (size_of c.args.s) equality_rules ++ alike_operations (size_of c.args.s) ++ instances (size_of c.args.s) alike_current) (axioms c.args.types.now (size_of c.args.s))
    (then c.args.c.now.clauses c.add_alike_operations.new.c.clauses c.add_axiom.new.c.clauses (all_instances (size_of c.args.s) equality_rules ++ alike_operations (size_of c.args.s)) (instances (size_of c.args.s) alike_current)
    (then c.args.c.now.clauses c.add_axioms.new.c.clauses c.add_alike_operations.new.c.clauses (all_instances (size_of c.args.s) equality_rules) (alike_operations (size_of c.args.s))
    c.in_ok-add_axioms.ensures.clauses
    c.in_ok-add_alike_operations.ensures.clauses)
    c.in_ok-add_axiom.ensures.clauses)
    c.in_ok-add_execution_axioms.ensures.clauses)
    c.in_ok-add_axioms-2.ensures.clauses)
    c.in_ok-add_txn_level.ensures.clauses)
    h)
    c.add_variables.ensures.clauses

pub returns-in_err-add_axioms-clause-clauses : goal.returns-in_err-add_axioms-clause-clauses
returns-in_err-add_axioms-clause-clauses c = let p = err_from_is_err_and c.from_residual.result c.from_residual.ensures.1 in rw p.1 tt

pub returns-in_err-add_alike_operations-clause-clauses : goal.returns-in_err-add_alike_operations-clause-clauses
returns-in_err-add_alike_operations-clause-clauses c = let p = err_from_is_err_and c.from_residual-in_err-add_alike_operations.result c.from_residual-in_err-add_alike_operations.ensures.1 in rw p.1 tt

pub returns-in_err-add_axiom-clause-clauses : goal.returns-in_err-add_axiom-clause-clauses
returns-in_err-add_axiom-clause-clauses c = let p = err_from_is_err_and c.from_residual-in_err-add_axiom.result c.from_residual-in_err-add_axiom.ensures.1 in rw p.1 tt

pub returns-in_err-add_execution_axioms-clause-clauses : goal.returns-in_err-add_execution_axioms-clause-clauses
returns-in_err-add_execution_axioms-clause-clauses c = let p = err_from_is_err_and c.from_residual-in_err-add_execution_axioms.result c.from_residual-in_err-add_execution_axioms.ensures.1 in rw p.1 tt

pub returns-in_err-add_axioms-2-clause-clauses : goal.returns-in_err-add_axioms-2-clause-clauses
returns-in_err-add_axioms-2-clause-clauses c = let p = err_from_is_err_and c.from_residual-in_err-add_axioms-2.result c.from_residual-in_err-add_axioms-2.ensures.1 in rw p.1 tt

pub returns-in_err-add_txn_level-clause-clauses : goal.returns-in_err-add_txn_level-clause-clauses
returns-in_err-add_txn_level-clause-clauses c = let p = err_from_is_err_and c.from_residual-in_err-add_txn_level.result c.from_residual-in_err-add_txn_level.ensures.1 in rw p.1 tt

use Rattle.std.proofs.Common.{◌≡◌, ◌++◌, [], ◌∷◌, ◌∙◌}
use Rattle.std.proofs.lemmas.Result.{err_from_is_err_and, on_ok_weaker}
use Rattle.ql_atoms.specs.Atoms.{size_of}
use Rattle.ql_cnf.specs.Circuits.{clauses_of}
use Rattle.ql_atoms.specs.declared.atoms.Atom.TheVariants.{Is}
use Rattle.ql_ground.specs.Bodies.{current_effect}
use Rattle.ql_base.specs.Ids.{op}
use Rattle.ql_ground.specs.Ground.{implication, instances, all_instances, alike_operations, axioms, all_variable_operations}
use Rattle.ql_ground.specs.Rules.{equality_rules, level_rule}
use Rattle.ql_ground.proofs.Growth.{then}
use Rattle.ql_ground.proofs.goal_groups.add_op_groups.Goals as goal

pub returns-in_err-add_axioms-clause-variables : goal.returns-in_err-add_axioms-clause-variables
returns-in_err-add_axioms-clause-variables c = c.in_err-add_axioms.ensures.variables

pub add_alike_operations-requires : goal.add_alike_operations-requires
add_alike_operations-requires c = record { variables = c.in_ok-add_axioms.ensures.variables ∙ c.requires.variables }

pub returns-in_err-add_alike_operations-clause-variables : goal.returns-in_err-add_alike_operations-clause-variables
returns-in_err-add_alike_operations-clause-variables c = c.in_err-add_alike_operations.ensures.variables ∙ c.in_ok-add_axioms.ensures.variables

pub add_execution_axioms-requires-clause-variables : goal.add_execution_axioms-requires-clause-variables
add_execution_axioms-requires-clause-variables c = c.in_ok-add_alike_operations.ensures.variables ∙ c.in_ok-add_axioms.ensures.variables ∙ c.requires.variables

pub returns-in_err-add_execution_axioms-clause-variables : goal.returns-in_err-add_execution_axioms-clause-variables
returns-in_err-add_execution_axioms-clause-variables c = c.in_err-add_execution_axioms.ensures.variables ∙ c.in_ok-add_alike_operations.ensures.variables ∙ c.in_ok-add_axioms.ensures.variables

pub add_level-requires : goal.add_level-requires
add_level-requires c = record { variables = c.in_ok-add_execution_axioms.ensures.variables ∙ c.in_ok-add_alike_operations.ensures.variables ∙ c.in_ok-add_axioms.ensures.variables ∙ c.requires.variables }

pub returns-in_err-add_level-clause-variables : goal.returns-in_err-add_level-clause-variables
returns-in_err-add_level-clause-variables c = c.in_err-add_level.ensures.variables ∙ c.in_ok-add_execution_axioms.ensures.variables ∙ c.in_ok-add_alike_operations.ensures.variables ∙ c.in_ok-add_axioms.ensures.variables

pub add_own_operation-requires-clause-variables : goal.add_own_operation-requires-clause-variables
add_own_operation-requires-clause-variables c = c.in_ok-add_level.ensures.variables ∙ c.in_ok-add_execution_axioms.ensures.variables ∙ c.in_ok-add_alike_operations.ensures.variables ∙ c.in_ok-add_axioms.ensures.variables ∙ c.requires.variables

pub returns-in_err-add_own_operation-clause-variables : goal.returns-in_err-add_own_operation-clause-variables
returns-in_err-add_own_operation-clause-variables c = c.in_err-add_own_operation.ensures.variables ∙ c.in_ok-add_level.ensures.variables ∙ c.in_ok-add_execution_axioms.ensures.variables ∙ c.in_ok-add_alike_operations.ensures.variables ∙ c.in_ok-add_axioms.ensures.variables

pub add_variables-requires-clause-variables : goal.add_variables-requires-clause-variables
add_variables-requires-clause-variables c = c.in_ok-add_own_operation.ensures.variables ∙ c.in_ok-add_level.ensures.variables ∙ c.in_ok-add_execution_axioms.ensures.variables ∙ c.in_ok-add_alike_operations.ensures.variables ∙ c.in_ok-add_axioms.ensures.variables ∙ c.requires.variables

pub returns-clause-variables : goal.returns-clause-variables
returns-clause-variables c = c.add_variables.ensures.variables ∙ c.in_ok-add_own_operation.ensures.variables ∙ c.in_ok-add_level.ensures.variables ∙ c.in_ok-add_execution_axioms.ensures.variables ∙ c.in_ok-add_alike_operations.ensures.variables ∙ c.in_ok-add_axioms.ensures.variables

pub returns-clause-clauses : goal.returns-clause-clauses
returns-clause-clauses c = on_ok_weaker c.add_variables.result
    (λ (h : c.add_variables.new.c.clauses ≡ c.add_own_operation.new.c.clauses ++ clauses_of (all_variable_operations (size_of c.args.s) 0 c.args.variables.now)).
    then c.args.c.now.clauses c.add_own_operation.new.c.clauses c.add_variables.new.c.clauses (all_instances (size_of c.args.s) equality_rules ++ alike_operations (size_of c.args.s) ++ axioms c.args.types.now (size_of c.args.s) ++ instances (size_of c.args.s) (level_rule c.args.goal.1) ++ implication (size_of c.args.s) [] (Is (op c.args.goal.0.0) (current_effect (size_of c.args.s)) ∷ []) ∷ []) (all_variable_operations (size_of c.args.s) 0 c.args.variables.now)
    (then c.args.c.now.clauses c.add_level.new.c.clauses c.add_own_operation.new.c.clauses (all_instances (size_of c.args.s) equality_rules ++ alike_operations (size_of c.args.s) ++ axioms c.args.types.now (size_of c.args.s) ++ instances (size_of c.args.s) (level_rule c.args.goal.1)) (implication (size_of c.args.s) [] (Is (op c.args.goal.0.0) (current_effect (size_of c.args.s)) ∷ []) ∷ [])
    (then c.args.c.now.clauses c.add_execution_axioms.new.c.clauses c.add_level.new.c.clauses (all_instances (size_of c.args.s) equality_rules ++ alike_operations (size_of c.args.s) ++ axioms c.args.types.now (size_of c.args.s)) (instances (size_of c.args.s) (level_rule c.args.goal.1))
    (then c.args.c.now.clauses c.add_alike_operations.new.c.clauses c.add_execution_axioms.new.c.clauses (all_instances (size_of c.args.s) equality_rules ++ alike_operations (size_of c.args.s)) (axioms c.args.types.now (size_of c.args.s))
    (then c.args.c.now.clauses c.add_axioms.new.c.clauses c.add_alike_operations.new.c.clauses (all_instances (size_of c.args.s) equality_rules) (alike_operations (size_of c.args.s))
    c.in_ok-add_axioms.ensures.clauses
    c.in_ok-add_alike_operations.ensures.clauses)
    c.in_ok-add_execution_axioms.ensures.clauses)
    c.in_ok-add_level.ensures.clauses)
    c.in_ok-add_own_operation.ensures.clauses)
    h)
    c.add_variables.ensures.clauses

pub returns-in_err-add_axioms-clause-clauses : goal.returns-in_err-add_axioms-clause-clauses
returns-in_err-add_axioms-clause-clauses c = let p = err_from_is_err_and c.from_residual.result c.from_residual.ensures.1 in rw p.1 tt

pub returns-in_err-add_alike_operations-clause-clauses : goal.returns-in_err-add_alike_operations-clause-clauses
returns-in_err-add_alike_operations-clause-clauses c = let p = err_from_is_err_and c.from_residual-in_err-add_alike_operations.result c.from_residual-in_err-add_alike_operations.ensures.1 in rw p.1 tt

pub returns-in_err-add_execution_axioms-clause-clauses : goal.returns-in_err-add_execution_axioms-clause-clauses
returns-in_err-add_execution_axioms-clause-clauses c = let p = err_from_is_err_and c.from_residual-in_err-add_execution_axioms.result c.from_residual-in_err-add_execution_axioms.ensures.1 in rw p.1 tt

pub returns-in_err-add_level-clause-clauses : goal.returns-in_err-add_level-clause-clauses
returns-in_err-add_level-clause-clauses c = let p = err_from_is_err_and c.from_residual-in_err-add_level.result c.from_residual-in_err-add_level.ensures.1 in rw p.1 tt

pub returns-in_err-add_own_operation-clause-clauses : goal.returns-in_err-add_own_operation-clause-clauses
returns-in_err-add_own_operation-clause-clauses c = let p = err_from_is_err_and c.from_residual-in_err-add_own_operation.result c.from_residual-in_err-add_own_operation.ensures.1 in rw p.1 tt

use Rattle.std.proofs.Common.{◌≡◌, ◌<◌, length, arith, sym, subst, ap, ◌∙◌}
use Rattle.std.specs.Result.{IfOk}
use Rattle.std.proofs.lemmas.Result.{IfOk-weaker}
use Rattle.ql_cnf.specs.Satisfaction.{ClauseList, IsUnsatisfiable}
use Rattle.ql_lang.specs.Formulas.{resolved_of}
use Rattle.ql_typing.specs.Operations.{all_ops}
use Rattle.ql_ground.specs.Ground.{op_problem, txn_problem}
use Rattle.ql_ground.specs.Implication.{Implies, ImpliesTxn}
use Rattle.ql_ground.specs.OfPrograms.{IsGoalOf, IsProblemOf, IsImplied}
use Rattle.ql_ground.specs.declared.goal.Goal.{Goal}
use Rattle.ql_ground.specs.declared.goal.Goal.TheVariants.{OpAt, TxnAt}
use Rattle.ql_ground.proofs.Typing.{count_types, op_contract, txn_contract, op_list, txn_list, op_implied, txn_implied}
use Rattle.ql_ground.proofs.goal.problem.Goals as goal

pub op_problem-requires-clause-few_operations : goal.op_problem-requires-clause-few_operations
op_problem-requires-clause-few_operations c = omega (arith, ap length c.deref.ensures.value, c.in_ok-types.ensures.few)

pub op_problem-requires-clause-operation : goal.op_problem-requires-clause-operation
op_problem-requires-clause-operation c =
    let there : c.in-OpAt.o.0 < length (all_ops c.args.t.now.program.types) = subst (λ (g : Goal). IsGoalOf c.args.t.now.program g) c.in-OpAt.is c.requires.goal in
    omega (arith, count_types c.args.t.now.program.types c.deref.result.now (c.deref.ensures.value ∙ c.in_ok-types.ensures.types))

pub op_problem-requires-clause-contract : goal.op_problem-requires-clause-contract
op_problem-requires-clause-contract c = op_contract c.args.t.now.program.types c.deref.result.now (resolved_of c.op_formula.result.now) (c.deref.ensures.value ∙ c.in_ok-types.ensures.types) c.op_formula.ensures.well_formed

pub returns-in-OpAt-clause-list : goal.returns-in-OpAt-clause-list
returns-in-OpAt-clause-list c =
    subst (λ (g : Goal). IfOk c.op_problem.result (λ r. IsProblemOf c.args.t.now.program g r)) (sym c.in-OpAt.is)
    (IfOk-weaker c.op_problem.result
    (λ (r : ClauseList). r ≡ op_problem c.deref.result.now c.in-OpAt.o.0 c.in-OpAt.level (resolved_of c.op_formula.result.now))
    (λ (r : ClauseList). IsProblemOf c.args.t.now.program (OpAt c.in-OpAt.o c.in-OpAt.level) r)
    (λ (r : ClauseList) (h : r ≡ op_problem c.deref.result.now c.in-OpAt.o.0 c.in-OpAt.level (resolved_of c.op_formula.result.now)).
    op_list c.args.t.now.program c.in-OpAt.o c.in-OpAt.level c.deref.result.now (resolved_of c.op_formula.result.now) r (c.deref.ensures.value ∙ c.in_ok-types.ensures.types) c.op_formula.ensures.resolved h)
    c.op_problem.ensures.list)

pub returns-in-OpAt-clause-sound : goal.returns-in-OpAt-clause-sound
returns-in-OpAt-clause-sound c =
    subst (λ (g : Goal). IfOk c.op_problem.result (λ r. IsUnsatisfiable r → IsImplied c.args.t.now.program g)) (sym c.in-OpAt.is)
    (IfOk-weaker c.op_problem.result
    (λ (r : ClauseList). IsUnsatisfiable r → Implies c.deref.result.now c.in-OpAt.o.0 c.in-OpAt.level (resolved_of c.op_formula.result.now))
    (λ (r : ClauseList). IsUnsatisfiable r → IsImplied c.args.t.now.program (OpAt c.in-OpAt.o c.in-OpAt.level))
    (λ (r : ClauseList) (h : IsUnsatisfiable r → Implies c.deref.result.now c.in-OpAt.o.0 c.in-OpAt.level (resolved_of c.op_formula.result.now)).
    op_implied c.args.t.now.program c.in-OpAt.o c.in-OpAt.level c.deref.result.now (resolved_of c.op_formula.result.now) r (c.deref.ensures.value ∙ c.in_ok-types.ensures.types) c.op_formula.ensures.resolved h)
    c.op_problem.ensures.sound)

pub txn_problem-requires-clause-few_operations : goal.txn_problem-requires-clause-few_operations
txn_problem-requires-clause-few_operations c = omega (arith, ap length c.deref-in-TxnAt.ensures.value, c.in_ok-types.ensures.few)

pub txn_problem-requires-clause-contract : goal.txn_problem-requires-clause-contract
txn_problem-requires-clause-contract c = txn_contract c.args.t.now.program.types c.deref-in-TxnAt.result.now (resolved_of c.txn_formula.result.now) (c.deref-in-TxnAt.ensures.value ∙ c.in_ok-types.ensures.types) c.txn_formula.ensures.well_formed

pub returns-clause-list : goal.returns-clause-list
returns-clause-list c =
    subst (λ (g : Goal). IfOk c.txn_problem.result (λ r. IsProblemOf c.args.t.now.program g r)) (sym c.in-TxnAt.is)
    (IfOk-weaker c.txn_problem.result
    (λ (r : ClauseList). r ≡ txn_problem c.deref-in-TxnAt.result.now c.in-TxnAt.level (resolved_of c.txn_formula.result.now))
    (λ (r : ClauseList). IsProblemOf c.args.t.now.program (TxnAt c.in-TxnAt.d c.in-TxnAt.level) r)
    (λ (r : ClauseList) (h : r ≡ txn_problem c.deref-in-TxnAt.result.now c.in-TxnAt.level (resolved_of c.txn_formula.result.now)).
    txn_list c.args.t.now.program c.in-TxnAt.d c.in-TxnAt.level c.deref-in-TxnAt.result.now (resolved_of c.txn_formula.result.now) r (c.deref-in-TxnAt.ensures.value ∙ c.in_ok-types.ensures.types) c.txn_formula.ensures.resolved h)
    c.txn_problem.ensures.list)

pub returns-clause-sound : goal.returns-clause-sound
returns-clause-sound c =
    subst (λ (g : Goal). IfOk c.txn_problem.result (λ r. IsUnsatisfiable r → IsImplied c.args.t.now.program g)) (sym c.in-TxnAt.is)
    (IfOk-weaker c.txn_problem.result
    (λ (r : ClauseList). IsUnsatisfiable r → ImpliesTxn c.deref-in-TxnAt.result.now c.in-TxnAt.level (resolved_of c.txn_formula.result.now))
    (λ (r : ClauseList). IsUnsatisfiable r → IsImplied c.args.t.now.program (TxnAt c.in-TxnAt.d c.in-TxnAt.level))
    (λ (r : ClauseList) (h : IsUnsatisfiable r → ImpliesTxn c.deref-in-TxnAt.result.now c.in-TxnAt.level (resolved_of c.txn_formula.result.now)).
    txn_implied c.args.t.now.program c.in-TxnAt.d c.in-TxnAt.level c.deref-in-TxnAt.result.now (resolved_of c.txn_formula.result.now) r (c.deref-in-TxnAt.ensures.value ∙ c.in_ok-types.ensures.types) c.txn_formula.ensures.resolved h)
    c.txn_problem.ensures.sound)

use Rattle.std.proofs.lemmas.Result.{err_from_is_err_and}
use Rattle.std.proofs.Common.{◌≡◌, ℕ, ◌++◌, List, length, arith, ap, ◌∙◌}
use Rattle.ql_cnf.specs.Circuits.{clauses_of}
use Rattle.ql_cnf.specs.declared.lit.Lit.{Lit}
use Rattle.ql_lang.specs.Formulas.{resolved_of, statement_of}
use Rattle.ql_lang.specs.declared.formula.OpChoice.{OpChoice}
use Rattle.ql_ground.specs.Parts.{txn_groups}
use Rattle.ql_ground.proofs.Constants.{txn_over, txn_inputs}
use Rattle.ql_ground.proofs.Problems.{size, txn_done, txn_implied}
use Rattle.ql_ground.proofs.contract_problem.txn_problem.Goals as goal

pub deny-requires-clause-terms : goal.deny-requires-clause-terms
deny-requires-clause-terms c =
    txn_over (size (length c.items-variables.result.now) (length c.args.types.now)) (length c.args.f.now.vars) (omega (arith, ap length c.items-variables.ensures)) (statement_of c.args.f.now.body) c.requires.contract.body

pub deny-requires-clause-leaves : goal.deny-requires-clause-leaves
deny-requires-clause-leaves c =
    txn_inputs (size (length c.items-variables.result.now) (length c.args.types.now)) (length c.args.f.now.vars) (omega (arith, ap length c.items-variables.ensures)) (statement_of c.args.f.now.body) c.requires.contract.body

pub returns-clause-list : goal.returns-clause-list
returns-clause-list c =
    let counted : length c.items-variables.result.now ≡ length c.args.f.now.vars = omega (arith, ap length c.items-variables.ensures) in
    txn_done c.args.types.now c.args.level (resolved_of c.args.f.now) (size (length c.items-variables.result.now) (length c.args.types.now)) c.add_txn_groups.new.c.clauses c.deny.new.c
    (ap (λ (n : ℕ). size n (length c.args.types.now)) counted)
    (c.in_ok-add_txn_groups.ensures.clauses
    ∙ ap (λ (p : List (List Lit)). p ++ clauses_of (txn_groups c.args.types.now c.args.level c.items-variables.result.now (size (length c.items-variables.result.now) (length c.args.types.now)))) c.new-c.ensures.empty
    ∙ ap (λ (vars : List OpChoice). clauses_of (txn_groups c.args.types.now c.args.level vars (size (length c.items-variables.result.now) (length c.args.types.now)))) c.items-variables.ensures)
    c.in_ok-deny.ensures.variables c.in_ok-deny.ensures.clauses

pub returns-clause-sound : goal.returns-clause-sound
returns-clause-sound c = txn_implied c.args.types.now c.args.level (resolved_of c.args.f.now) c.deny.new.c c.requires.contract (returns-clause-list c)

pub returns-in_err-add_txn_groups-clause-list : goal.returns-in_err-add_txn_groups-clause-list
returns-in_err-add_txn_groups-clause-list c = let p = err_from_is_err_and c.from_residual.result c.from_residual.ensures.1 in rw p.1 tt

pub returns-in_err-add_txn_groups-clause-sound : goal.returns-in_err-add_txn_groups-clause-sound
returns-in_err-add_txn_groups-clause-sound c = let p = err_from_is_err_and c.from_residual.result c.from_residual.ensures.1 in rw p.1 tt

pub returns-in_err-deny-clause-list : goal.returns-in_err-deny-clause-list
returns-in_err-deny-clause-list c = let p = err_from_is_err_and c.from_residual-in_err-deny.result c.from_residual-in_err-deny.ensures.1 in rw p.1 tt

pub returns-in_err-deny-clause-sound : goal.returns-in_err-deny-clause-sound
returns-in_err-deny-clause-sound c = let p = err_from_is_err_and c.from_residual-in_err-deny.result c.from_residual-in_err-deny.ensures.1 in rw p.1 tt

use Rattle.std.proofs.Common.{◌≡◌, ◌++◌, List, map, ap, ◌∙◌}
use Rattle.std.proofs.lemmas.Result.{err_from_is_err_and, IfOk-weaker}
use Rattle.ql_atoms.specs.Atoms.{size_of}
use Rattle.ql_cnf.specs.Circuits.{circuit_of, Input}
use Rattle.ql_cnf.specs.declared.ground.Ground.{Ground}
use Rattle.ql_cnf.specs.declared.lit.Lit.{Lit}
use Rattle.ql_ground.specs.Bodies.{constant_of, all_of, txn_circuit}
use Rattle.ql_ground.specs.Parts.{other_literals}
use Rattle.ql_ground.proofs.Members.{txn-inputs}
use Rattle.ql_ground.proofs.body.ground_txn.Goals as goal

pub returns : goal.returns
returns c = IfOk-weaker c.ground_all.result
    (λ (g : Ground). circuit_of g ≡ all_of (map Input c.deref.result.now))
    (λ (g : Ground). circuit_of g ≡ txn_circuit (size_of c.args.s) (map (constant_of (size_of c.args.s)) c.args.members.now) (map (constant_of (size_of c.args.s)) c.args.others.now))
    (λ (g : Ground) (h : circuit_of g ≡ all_of (map Input c.deref.result.now)).
    h ∙ ap (λ (x : List Lit). all_of (map Input x))
    (c.deref.ensures.value ∙ c.in_ok-push_others.ensures ∙ ap (λ (x : List Lit). x ++ other_literals (size_of c.args.s) (map (constant_of (size_of c.args.s)) c.args.others.now)) c.in_ok-push_members.ensures)
    ∙ ap all_of (txn-inputs (size_of c.args.s) (map (constant_of (size_of c.args.s)) c.args.members.now) (map (constant_of (size_of c.args.s)) c.args.others.now)))
    c.ground_all.ensures

pub returns-in_err-lits : goal.returns-in_err-lits
returns-in_err-lits c = let p = err_from_is_err_and c.from_residual.result c.from_residual.ensures.1 in rw p.1 tt

pub returns-in_err-push_members : goal.returns-in_err-push_members
returns-in_err-push_members c = let p = err_from_is_err_and c.from_residual-in_err-push_members.result c.from_residual-in_err-push_members.ensures.1 in rw p.1 tt

pub returns-in_err-push_others : goal.returns-in_err-push_others
returns-in_err-push_others c = let p = err_from_is_err_and c.from_residual-in_err-push_others.result c.from_residual-in_err-push_others.ensures.1 in rw p.1 tt

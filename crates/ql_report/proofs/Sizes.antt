-- A contract with its names resolved has as many variables as before.
use Rattle.std.proofs.Common.{◌≡◌, ℕ, zero, suc, ◌+◌, Bool, List, [], ◌∷◌, map, length, Some, refl, sym, ap, ◌∙◌, arith}
use Rattle.std.specs.List.{slice_get}
use Rattle.std.proofs.lemmas.List.{length-map}
use Rattle.ql_lang.specs.Formulas.{Resolved}
use Rattle.ql_lang.specs.Trees.{Sentence, sentence_of}
use Rattle.ql_lang.specs.declared.operation.OpDecl.{OpDecl}
use Rattle.ql_lang.specs.declared.program.TxnDecl.{TxnDecl}
use Rattle.ql_lang.specs.declared.program.Program.{Program}
use Rattle.ql_typing.specs.Operations.{all_ops, op_contract, op_contracts, op_words, txn_contract, txn_contracts}
use Rattle.ql_typing.specs.Resolved.{choice_of, resolved_in}
use Rattle.ql_report.specs.Refusals.{op_reported, txn_reported}

same-count : (words : List (List ℕ)) (s : Sentence) → length (resolved_in words s).vars ≡ length s.vars
unfolding resolved_in
same-count words s = length-map s.vars (λ v. choice_of words v.ops)

at-map : {A B : Type 0} (f : A → B) (xs : List A) (k : ℕ) (x : A) (y : B) → slice_get xs k ≡ Some x → slice_get (map f xs) k ≡ Some y → y ≡ f x
at-map f [] k x y e g = absurd (cc)
at-map f (z ∷ xs) zero x y e g = let same : z ≡ x = cc in let out : f z ≡ y = cc in sym out ∙ ap f same
at-map f (z ∷ xs) (suc k) x y e g = at-map f xs k x y e g

pub op_variables : (p : Program) (o : ℕ) (d : OpDecl) (f : Resolved) → slice_get (all_ops p.types) o ≡ Some d → slice_get (op_contracts p.types) o ≡ Some f → length f.vars ≡ length d.contract.vars
op_variables p o d f e g =
    ap (λ (r : Resolved). length r.vars) (at-map (op_contract (op_words p.types)) (all_ops p.types) o d f e g) ∙ same-count (op_words p.types) (sentence_of d.contract)

pub txn_variables : (p : Program) (o : ℕ) (d : TxnDecl) (f : Resolved) → slice_get p.txns o ≡ Some d → slice_get (txn_contracts p) o ≡ Some f → length f.vars ≡ length d.contract.vars
txn_variables p o d f e g =
    ap (λ (r : Resolved). length r.vars) (at-map (txn_contract (op_words p.types)) p.txns o d f e g) ∙ same-count (op_words p.types) (sentence_of d.contract)

-- what is reported of a contract, by the number of its resolved variables
pub op_reported_is : (p : Program) (o : ℕ) (d : OpDecl) (f : Resolved) (values : List Bool) (n m : ℕ) → slice_get (all_ops p.types) o ≡ Some d → slice_get (op_contracts p.types) o ≡ Some f
    → n ≡ length f.vars + 1 → m ≡ length (all_ops p.types)
    → record { program = p; vars = d.contract.vars; size = record { constants = n; operations = m }; values = values } ≡ op_reported p o values
op_reported_is p o d f values n m e g is ops =
    let same : n ≡ suc (length d.contract.vars) = omega (arith, is, op_variables p o d f e g) in
    rw (e, same, ops) refl

pub txn_reported_is : (p : Program) (o : ℕ) (d : TxnDecl) (f : Resolved) (values : List Bool) (n m : ℕ) → slice_get p.txns o ≡ Some d → slice_get (txn_contracts p) o ≡ Some f
    → n ≡ length f.vars → m ≡ length (all_ops p.types)
    → record { program = p; vars = d.contract.vars; size = record { constants = n; operations = m }; values = values } ≡ txn_reported p o values
txn_reported_is p o d f values n m e g is ops =
    let same : n ≡ length d.contract.vars = is ∙ txn_variables p o d f e g in
    rw (e, same, ops) refl

-- The contracts of a typed program's goals, and their problems.
use Rattle.std.proofs.Common.{◌≡◌, ℕ, zero, suc, ◌+◌, true, false, List, [], ◌∷◌, ◌++◌, length, take, Some, sym, subst, ap, ◌∙◌, add-one}
use Rattle.std.specs.Prelude.{slice_get}
use Rattle.ql_base.specs.declared.ids.OpId.{OpId}
use Rattle.ql_base.specs.declared.ids.DeclId.{DeclId}
use Rattle.ql_cnf.specs.Satisfaction.{ClauseList, IsUnsatisfiable}
use Rattle.ql_lang.specs.Formulas.{Resolved}
use Rattle.ql_lang.specs.declared.program.Program.{Program}
use Rattle.ql_lang.specs.declared.program.TypeDecl.{TypeDecl}
use Rattle.ql_levels.specs.declared.level.Level.{Level}
use Rattle.ql_levels.specs.declared.level.TxnLevel.{TxnLevel}
use Rattle.ql_typing.specs.Operations.{all_ops, op_kinds, op_contracts, txn_contracts}
use Rattle.ql_typing.specs.WellFormed.{AreChoicesOf, IsOpContract, IsTxnContract}
use Rattle.ql_typing.proofs.Flat.{length-kinds}
use Rattle.ql_ground.specs.declared.goal.Goal.TheVariants.{OpAt, TxnAt}
use Rattle.ql_ground.specs.Ground.{op_problem, txn_problem}
use Rattle.ql_ground.specs.Implication.{IsContractOf, Implies, ImpliesTxn}
use Rattle.ql_ground.specs.OfPrograms.{IsProblemOf, IsImplied}

front_more : (xs : List ℕ) (i x : ℕ) → slice_get xs i ≡ Some x → take (suc i) xs ≡ take i xs ++ x ∷ []
front_more [] i x h = absurd (cc)
front_more (y ∷ xs) zero x h = let same : y ≡ x = cc in ap (λ z. z ∷ []) same
front_more (y ∷ xs) (suc i) x h = ap (λ front. y ∷ front) (front_more xs i x h)

-- the types of one more operation
pub types_more : (kinds old new : List ℕ) (i x : ℕ) → slice_get kinds i ≡ Some x → old ≡ take i kinds → new ≡ old ++ x ∷ [] → new ≡ take (i + 1) kinds
types_more kinds old new i x h e g = rw add-one (g ∙ ap (λ front. front ++ x ∷ []) e ∙ sym (front_more kinds i x h))

pub count_types : (decls : List TypeDecl) (types : List ℕ) → types ≡ op_kinds decls → length types ≡ length (all_ops decls)
count_types decls types e = ap length e ∙ length-kinds 0 decls

pub op_contract : (decls : List TypeDecl) (types : List ℕ) (f : Resolved) → types ≡ op_kinds decls → IsOpContract (length (all_ops decls)) f → IsContractOf types true f
op_contract decls types f e w = record {
  vars = subst (λ n. AreChoicesOf n f.vars) (sym (count_types decls types e)) w.choices;
  body = w.body;
}

pub txn_contract : (decls : List TypeDecl) (types : List ℕ) (f : Resolved) → types ≡ op_kinds decls → IsTxnContract (length (all_ops decls)) f → IsContractOf types false f
txn_contract decls types f e w = record {
  vars = subst (λ n. AreChoicesOf n f.vars) (sym (count_types decls types e)) w.choices;
  body = w.body;
}

pub op_list : (p : Program) (o : OpId) (level : Level) (types : List ℕ) (f : Resolved) (r : ClauseList) → types ≡ op_kinds p.types → slice_get (op_contracts p.types) o.0 ≡ Some f → r ≡ op_problem types o.0 level f → IsProblemOf p (OpAt o level) r
op_list p o level types f r e g h = (f, g, h ∙ ap (λ ts. op_problem ts o.0 level f) e)

pub txn_list : (p : Program) (d : DeclId) (level : TxnLevel) (types : List ℕ) (f : Resolved) (r : ClauseList) → types ≡ op_kinds p.types → slice_get (txn_contracts p) d.0 ≡ Some f → r ≡ txn_problem types level f → IsProblemOf p (TxnAt d level) r
txn_list p d level types f r e g h = (f, g, h ∙ ap (λ ts. txn_problem ts level f) e)

pub op_implied : (p : Program) (o : OpId) (level : Level) (types : List ℕ) (f : Resolved) (r : ClauseList) → types ≡ op_kinds p.types → slice_get (op_contracts p.types) o.0 ≡ Some f → (IsUnsatisfiable r → Implies types o.0 level f) → IsUnsatisfiable r → IsImplied p (OpAt o level)
op_implied p o level types f r e g h u f' g' =
    let same : f ≡ f' = cc in
    subst (λ k. Implies (op_kinds p.types) o.0 level k) same (subst (λ ts. Implies ts o.0 level f) e (h u))

pub txn_implied : (p : Program) (d : DeclId) (level : TxnLevel) (types : List ℕ) (f : Resolved) (r : ClauseList) → types ≡ op_kinds p.types → slice_get (txn_contracts p) d.0 ≡ Some f → (IsUnsatisfiable r → ImpliesTxn types level f) → IsUnsatisfiable r → IsImplied p (TxnAt d level)
txn_implied p d level types f r e g h u f' g' =
    let same : f ≡ f' = cc in
    subst (λ k. ImpliesTxn (op_kinds p.types) level k) same (subst (λ ts. ImpliesTxn ts level f) e (h u))

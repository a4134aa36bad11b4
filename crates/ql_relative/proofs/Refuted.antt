-- A relative problem that no assignment satisfies: the contract holds wherever all effects keep the levels.
use Rattle.std.proofs.Common.{◌≡◌, ℕ, ◌==◌, ◌<◌, Bool, true, false, inl, inr, List, [], ◌∷◌, ◌++◌, length, Some, refl, subst, ◌∙◌, eqb-true}
use Rattle.std.proofs.lemmas.Bool.{cases_Bool}
use Rattle.std.specs.Prelude.{slice_index}
use Rattle.std.specs.List.{list_all}
use Rattle.ql_atoms.specs.Atoms.{Size}
use Rattle.ql_cnf.specs.Circuits.{clauses_of}
use Rattle.ql_cnf.specs.Satisfaction.{ClauseList, IsUnsatisfiable, Satisfies, clause_true}
use Rattle.ql_cnf.specs.declared.lit.Lit.{Lit}
use Rattle.ql_cnf.proofs.CircuitLaws.{all_true-clauses_of}
use Rattle.ql_lang.specs.Formulas.{Resolved}
use Rattle.ql_levels.specs.Formulas.{formula_of}
use Rattle.ql_levels.specs.Lists.{LevelLists}
use Rattle.ql_ground.specs.Effects.{Effect, effect_at}
use Rattle.ql_ground.specs.Ground.{op_size, txn_size}
use Rattle.ql_ground.specs.Implication.{IsContractOf}
use Rattle.ql_ground.specs.Relations.{inside, is_op}
use Rattle.ql_ground.specs.Truth.{Holds, statement_true}
use Rattle.ql_ground.proofs.Laws.{one-found}
use Rattle.ql_ground.proofs.Refuted.{chosen-effect, none, op_constants, op_satisfied, txn_satisfied}
use Rattle.ql_ground.proofs.Upto.{all-append}
use Rattle.ql_relative.specs.Keeping.{op_level, txn_level}
use Rattle.ql_relative.specs.Relative.{kept, op_relative, txn_relative, used, with_lists}
use Rattle.ql_relative.proofs.PlainKeeping.{KeepsLevels, Meets, MeetsTxn}
use Rattle.ql_relative.proofs.Keeping.{kept-true, used-true}

-- an assignment that satisfies a problem, and in which more lists are true, satisfies the problem with these
with_lists-satisfied : (a : List Bool) (c : ClauseList) (lists : List (List Lit)) → Satisfies a c → list_all (clause_true a) lists ≡ true → Satisfies a (with_lists c lists)
with_lists-satisfied a c lists h more = (h.0, all-append (clause_true a) c.clauses (clauses_of lists) h.1 (all_true-clauses_of a lists ∙ more))

-- an effect of the operation keeps its level
keeps-own : (x : List Effect) (levels : LevelLists) (o cur : ℕ) → KeepsLevels levels x → is_op x o cur ≡ true → Holds x (formula_of (op_level levels o)) cur
keeps-own x levels o cur keeps is_cur =
    let found = one-found (λ e. e.op == o) (effect_at x cur) is_cur in
    subst (λ k. Holds x (formula_of (op_level levels k)) cur) (eqb-true found.effect.op o found.holds) (keeps cur found.effect found.effect_is)

-- operations
pub op_relative-sound : (types : List ℕ) (levels : LevelLists) (o : ℕ) (f : Resolved) → IsContractOf types true f → IsUnsatisfiable (op_relative types levels o f) → Meets types levels o f
op_relative-sound types levels o f contract unsatisfiable x law fits keeps cur is_cur places chosen =
    elim (cases_Bool (statement_true x none places cur f.body)) [
      | inl met ↦ met
      | inr broken ↦
          let a = op_satisfied types o (op_level levels o) f contract x law fits cur is_cur (keeps-own x levels o cur keeps is_cur) places chosen broken in
          let there = (op_constants x f.vars places o cur chosen is_cur).there in
          absurd (unsatisfiable a.values (with_lists-satisfied a.values _ (kept levels (op_size types f)) a.satisfies (kept-true x law levels keeps none (places ++ cur ∷ []) (op_size types f) there a.values a.reads)))
    ]

-- declared transactions
pub txn_relative-sound : (types : List ℕ) (levels : LevelLists) (uses : ℕ → Bool) (d : ℕ) (f : Resolved) → IsContractOf types false f → IsUnsatisfiable (txn_relative types levels uses d f) → MeetsTxn types levels uses d f
txn_relative-sound types levels uses d f contract unsatisfiable x law fits keeps run kept_level places chosen =
    elim (cases_Bool (statement_true x (inside x run) places 0 f.body)) [
      | inl met ↦ met
      | inr broken ↦
          let s : Size = txn_size types f in
          let a = txn_satisfied types (txn_level levels d) f contract x law fits run kept_level.holds places chosen broken in
          let there : (i : ℕ) → i < length f.vars → (e : Effect) × (effect_at x (slice_index places i) ≡ Some e) = chosen-effect x f.vars places chosen in
          absurd (unsatisfiable a.values (with_lists-satisfied a.values _ (kept levels s ++ used uses s) a.satisfies (all-append (clause_true a.values) (kept levels s) (used uses s)
          (kept-true x law levels keeps (inside x run) places s there a.values a.reads)
          (used-true x types fits levels uses run d kept_level places s refl there a.values a.reads))))
    ]

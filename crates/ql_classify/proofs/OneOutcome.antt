-- A test doesn't both pass and fail, and a target has at most one least level.
use Rattle.std.proofs.Common.{◌≡◌, ℕ, Bool, inl, inr, List, [], ◌∷◌, Some, refl, sym, subst, ◌∙◌}
use Rattle.std.specs.List.{All}
use Rattle.std.proofs.lemmas.List.Elements.{All-head, All-tail}
use Rattle.ql_cnf.specs.Satisfaction.{Satisfies}
use Rattle.ql_lang.specs.Formulas.{Resolved}
use Rattle.ql_lang.specs.declared.program.Program.{Program}
use Rattle.ql_levels.specs.declared.level.Level.{Level}
use Rattle.ql_levels.specs.declared.level.Level.TheVariants.{Eventual, Causal, Wide, Strong}
use Rattle.ql_levels.specs.declared.level.TxnLevel.{TxnLevel}
use Rattle.ql_levels.specs.declared.level.TxnLevel.TheVariants.{Rc, Mav, Rr}
use Rattle.ql_typing.specs.Operations.{op_kinds}
use Rattle.ql_ground.specs.Ground.{op_problem, txn_problem}
use Rattle.ql_ground.specs.Least.{IsLeastOpLevel, IsLeastTxn}
use Rattle.ql_ground.proofs.Lower.{strong_gives_wide, wide_gives_causal, causal_gives_eventual, rr_gives_mav, mav_gives_rc}
use Rattle.ql_classify.specs.Outcome.{Test, OpHasLevel, UseIsWeak, TxnHasLevel, Passes, Fails, FirstFails}
use Rattle.ql_classify.specs.Targets.{IsOpLevel, IsTxnLevel}
use Rattle.ql_classify.specs.declared.classless.Classless.{Classless}
use Rattle.ql_classify.specs.declared.classless.Classless.TheVariants.{NoLevel, StrongInTxn, NoMemory}
use Rattle.ql_classify.proofs.LeastLevels.{op_satisfied, txn_satisfied}

-- where the top level's problem is satisfied no level is least
op-none : (types : List ℕ) (o : ℕ) (f : Resolved) (level : Level) (a : List Bool) → Satisfies a (op_problem types o Strong f) → IsLeastOpLevel types o f level → ⊥
op-none types o f Eventual a h u = u a (causal_gives_eventual types o f a (wide_gives_causal types o f a (strong_gives_wide types o f a h)))
op-none types o f Causal a h u = u.1 a (wide_gives_causal types o f a (strong_gives_wide types o f a h))
op-none types o f Wide a h u = u.2 a (strong_gives_wide types o f a h)
op-none types o f Strong a h u = u.3 a h

txn-none : (types : List ℕ) (f : Resolved) (level : TxnLevel) (a : List Bool) → Satisfies a (txn_problem types Rr f) → IsLeastTxn types f level → ⊥
txn-none types f Rc a h u = u a (mav_gives_rc types f a (rr_gives_mav types f a h))
txn-none types f Mav a h u = u.1 a (rr_gives_mav types f a h)
txn-none types f Rr a h u = u.2 a h

op-one : (types : List ℕ) (o : ℕ) (f : Resolved) (l k : Level) → IsLeastOpLevel types o f l → IsLeastOpLevel types o f k → l ≡ k
op-one types o f Eventual Eventual h g = refl
op-one types o f Eventual Causal h g = absurd (h g.0.0 g.0.1)
op-one types o f Eventual Wide h g = absurd (h g.0.0 g.0.1)
op-one types o f Eventual Strong h g = absurd (h g.0.0 g.0.1)
op-one types o f Causal Eventual h g = absurd (g h.0.0 h.0.1)
op-one types o f Causal Causal h g = refl
op-one types o f Causal Wide h g = absurd (h.1 g.1.0 g.1.1)
op-one types o f Causal Strong h g = absurd (h.1 g.1.0 g.1.1)
op-one types o f Wide Eventual h g = absurd (g h.0.0 h.0.1)
op-one types o f Wide Causal h g = absurd (g.1 h.1.0 h.1.1)
op-one types o f Wide Wide h g = refl
op-one types o f Wide Strong h g = absurd (h.2 g.2.0 g.2.1)
op-one types o f Strong Eventual h g = absurd (g h.0.0 h.0.1)
op-one types o f Strong Causal h g = absurd (g.1 h.1.0 h.1.1)
op-one types o f Strong Wide h g = absurd (g.2 h.2.0 h.2.1)
op-one types o f Strong Strong h g = refl

txn-one : (types : List ℕ) (f : Resolved) (l k : TxnLevel) → IsLeastTxn types f l → IsLeastTxn types f k → l ≡ k
txn-one types f Rc Rc h g = refl
txn-one types f Rc Mav h g = absurd (h g.0.0 g.0.1)
txn-one types f Rc Rr h g = absurd (h g.0.0 g.0.1)
txn-one types f Mav Rc h g = absurd (g h.0.0 h.0.1)
txn-one types f Mav Mav h g = refl
txn-one types f Mav Rr h g = absurd (h.1 g.1.0 g.1.1)
txn-one types f Rr Rc h g = absurd (g h.0.0 h.0.1)
txn-one types f Rr Mav h g = absurd (g.1 h.1.0 h.1.1)
txn-one types f Rr Rr h g = refl

module _ (p : Program) where
  pub one_op_level : (o : ℕ) (l k : Level) → IsOpLevel p o l → IsOpLevel p o k → l ≡ k
  one_op_level o l k h g =
      let other : Some g.0 ≡ Some h.0 = sym g.1 ∙ h.1 in
      let same : g.0 ≡ h.0 = cc in
      op-one (op_kinds p.types) o h.0 l k h.2 (subst (λ f. IsLeastOpLevel (op_kinds p.types) o f k) same g.2)

  pub one_txn_level : (d : ℕ) (l k : TxnLevel) → IsTxnLevel p d l → IsTxnLevel p d k → l ≡ k
  one_txn_level d l k h g =
      let other : Some g.0 ≡ Some h.0 = sym g.1 ∙ h.1 in
      let same : g.0 ≡ h.0 = cc in
      txn-one (op_kinds p.types) h.0 l k h.2 (subst (λ f. IsLeastTxn (op_kinds p.types) f k) same g.2)

  test-once : (t : Test) (e : Classless) → Passes p t → Fails p t e → ⊥
  test-once (OpHasLevel o) (NoLevel target a) h g = op-none (op_kinds p.types) o h.1.0 h.0 a (op_satisfied p (record { 0 = o }) Strong a h.1.0 h.1.1 g.1) h.1.2
  test-once (OpHasLevel o) (StrongInTxn txn op) h g = g
  test-once (OpHasLevel o) NoMemory h g = g
  test-once (UseIsWeak d w) (NoLevel target a) h g = g
  test-once (UseIsWeak d w) (StrongInTxn txn op) h g =
      let weak = h op.0 g.1.0 in
      weak.2 (one_op_level op.0 weak.0 Strong weak.1 g.1.1)
  test-once (UseIsWeak d w) NoMemory h g = g
  test-once (TxnHasLevel d) (NoLevel target a) h g = txn-none (op_kinds p.types) h.1.0 h.0 a (txn_satisfied p (record { 0 = d }) Rr a h.1.0 h.1.1 g.1) h.1.2
  test-once (TxnHasLevel d) (StrongInTxn txn op) h g = g
  test-once (TxnHasLevel d) NoMemory h g = g

  pub one_outcome : (tests : List Test) (e : Classless) → All (Passes p) tests → FirstFails p tests e → ⊥
  one_outcome [] e h g = g
  one_outcome (t ∷ tests) e h g = elim g [
    | inl here ↦ test-once t e (All-head (Passes p) t tests h) here
    | inr later ↦ one_outcome tests e (All-tail (Passes p) t tests h) later.1
  ]

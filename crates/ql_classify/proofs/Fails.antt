-- What the least levels and the refusals of a typed program show.
use Rattle.std.proofs.Common.{◌≡◌, ℕ, zero, suc, ◌+◌, ◌-◌, ◌<◌, Bool, List, [], ◌∷◌, ◌++◌, length, map, Some, refl, sym, ap, subst, ◌∙◌, inl, inr, arith, slice_get}
use Rattle.std.proofs.lemmas.Bool.{le-ltb, lt-ltb}
use Rattle.std.proofs.lemmas.List.{length-map}
use Rattle.std.proofs.lemmas.Option.{slice_get_within}
use Rattle.ql_base.specs.Ranges.{upto}
use Rattle.ql_lang.specs.declared.program.Program.{Program}
use Rattle.ql_lang.specs.declared.name.Name.{Name}
use Rattle.ql_lang.specs.Formulas.{Resolved}
use Rattle.ql_base.specs.declared.ids.OpId.{OpId}
use Rattle.ql_base.specs.declared.ids.DeclId.{DeclId}
use Rattle.ql_levels.specs.declared.level.Level.{Level}
use Rattle.ql_levels.specs.declared.level.TxnLevel.{TxnLevel}
use Rattle.ql_levels.specs.declared.level.Level.TheVariants.{Eventual, Causal, Wide, Strong}
use Rattle.ql_levels.specs.declared.level.TxnLevel.TheVariants.{Rc, Mav, Rr}
use Rattle.ql_cnf.specs.Satisfaction.{Satisfies}
use Rattle.ql_typing.specs.Operations.{all_ops, op_contract, op_contracts, op_kinds, op_words, txn_contract, txn_contracts}
use Rattle.ql_typing.specs.Programs.{program_faults}
use Rattle.ql_ground.specs.Ground.{op_problem, txn_problem}
use Rattle.ql_ground.specs.OfPrograms.{IsGoalOf}
use Rattle.ql_ground.specs.declared.goal.Goal.{Goal}
use Rattle.ql_ground.specs.declared.goal.Goal.TheVariants.{OpAt, TxnAt}
use Rattle.ql_classify.specs.Outcome.{Fails, FirstFails, Test, OpHasLevel, UseIsWeak, TxnHasLevel, all_tests, every_txn_tests, names_used, op_tests, txn_tests, use_tests}
use Rattle.ql_classify.specs.Targets.{IsLeastLevel, op_at, txn_at}
use Rattle.ql_classify.specs.declared.classless.Classless.{Classless}
use Rattle.ql_classify.specs.declared.classless.Classless.TheVariants.{NoLevel, StrongInTxn, NoMemory}
use Rattle.ql_counter.specs.Countermodels.{HasCounter, IsSatisfiedBy}
use Rattle.ql_counter.proofs.Programs.{goal_fails}
use Rattle.ql_classify.specs.Least.{LowerFail, TopFails, highest}

module _ (p : Program) (typed : program_faults p ≡ []) where
  -- what has a contract is of the program
  known_op : (o : ℕ) (f : Resolved) → slice_get (op_contracts p.types) o ≡ Some f → o < length (all_ops p.types)
  known_op o f e =
      let within = slice_get_within (op_contracts p.types) o f e in
      let same = length-map (all_ops p.types) (op_contract (op_words p.types)) in
      omega (arith, within, same)

  known_txn : (d : ℕ) (f : Resolved) → slice_get (txn_contracts p) d ≡ Some f → d < length p.txns
  known_txn d f e =
      let within = slice_get_within (txn_contracts p) d f e in
      let same = length-map p.txns (txn_contract (op_words p.types)) in
      omega (arith, within, same)

  op_fails : (o : OpId) (level : Level) (f : Resolved) (a : List Bool) → slice_get (op_contracts p.types) o.0 ≡ Some f → Satisfies a (op_problem (op_kinds p.types) o.0 level f) → HasCounter p (OpAt o level)
  op_fails o level f a e sat = goal_fails p typed (OpAt o level) (known_op o.0 f e) a (op_problem (op_kinds p.types) o.0 level f, (f, e, refl), sat)

  txn_fails : (d : DeclId) (level : TxnLevel) (f : Resolved) (a : List Bool) → slice_get (txn_contracts p) d.0 ≡ Some f → Satisfies a (txn_problem (op_kinds p.types) level f) → HasCounter p (TxnAt d level)
  txn_fails d level f a e sat = goal_fails p typed (TxnAt d level) (known_txn d.0 f e) a (txn_problem (op_kinds p.types) level f, (f, e, refl), sat)

  pub lower_fail : (g : Goal) → IsLeastLevel p g → LowerFail p g
  lower_fail (OpAt o Eventual) least = tt
  lower_fail (OpAt o Causal) (f, e, ((a, sat), enough)) = (op_fails o Eventual f a e sat, tt)
  lower_fail (OpAt o Wide) (f, e, ((a, sat), (b, more), enough)) = (op_fails o Eventual f a e sat, (op_fails o Causal f b e more, tt))
  lower_fail (OpAt o Strong) (f, e, ((a, sat), (b, more), (c, most), enough)) =
      (op_fails o Eventual f a e sat, (op_fails o Causal f b e more, (op_fails o Wide f c e most, tt)))
  lower_fail (TxnAt d Rc) least = tt
  lower_fail (TxnAt d Mav) (f, e, ((a, sat), enough)) = (txn_fails d Rc f a e sat, tt)
  lower_fail (TxnAt d Rr) (f, e, ((a, sat), (b, more), enough)) = (txn_fails d Rc f a e sat, (txn_fails d Mav f b e more, tt))

-- ---- the first test that fails

module _ (p : Program) where
  -- tests of the program's operations and transactions
  abbrev IsTest : Test → Type 0
  IsTest (OpHasLevel o) = o < length (all_ops p.types)
  IsTest (UseIsWeak d w) = Unit {0}
  IsTest (TxnHasLevel d) = d < length p.txns

  abbrev AreTests : List Test → Type 0
  AreTests [] = Unit {0}
  AreTests (t ∷ tests) = IsTest t × AreTests tests

  tests-append : (xs ys : List Test) → AreTests xs → AreTests ys → AreTests (xs ++ ys)
  tests-append [] ys h g = g
  tests-append (t ∷ xs) ys h g = (h.0, tests-append xs ys h.1 g)

  tests-upto : (n : ℕ) (f : ℕ → List Test) → ((i : ℕ) → i < n → AreTests (f i)) → AreTests (upto n f)
  tests-upto zero f h = tt
  tests-upto (suc n) f h = tests-append (upto n f) (f n) (tests-upto n f (λ i l. h i (omega (arith, l)))) (h n (omega arith))

  uses : (d : ℕ) (names : List Name) → AreTests (map (λ (n : Name). UseIsWeak d n.word) names)
  uses d [] = tt
  uses d (n ∷ names) = (tt, uses d names)

  are-tests : AreTests (all_tests p)
  are-tests = tests-append (op_tests p) (every_txn_tests p)
      (tests-upto (length (all_ops p.types)) (λ o. OpHasLevel o ∷ []) (λ o l. (l, tt)))
      (tests-upto (length p.txns) (txn_tests p) (λ d l. tests-append (use_tests p d) (TxnHasLevel d ∷ []) (uses d (names_used (slice_get p.txns d))) (l, tt)))

  highest-op : (o : ℕ) → o < length (all_ops p.types) → highest p o ≡ op_at o Strong
  highest-op o l = rw (lt-ltb o (length (all_ops p.types)) l) refl

  highest-txn : (d : ℕ) → highest p (length (all_ops p.types) + d) ≡ txn_at d Rr
  highest-txn d =
      let n : ℕ = length (all_ops p.types) in
      let rest : (n + d) - n ≡ d = omega arith in
      rw (le-ltb (n + d) n (omega arith)) (ap (λ k. txn_at k Rr) rest)

  -- the top level's problem is satisfied
  abbrev TopSatisfied : ℕ → List Bool → Type 0
  TopSatisfied target a = IsGoalOf p (highest p target) × IsSatisfiedBy p (highest p target) a

  one-satisfied : (t : Test) (target : ℕ) (a : List Bool) → IsTest t → Fails p t (NoLevel target a) → TopSatisfied target a
  one-satisfied (OpHasLevel o) target a known (e, sat) =
      let is : op_at o Strong ≡ highest p target = sym (ap (highest p) e ∙ highest-op o known) in (
        subst (IsGoalOf p) is known,
        subst (λ g. IsSatisfiedBy p g a) is sat,
      )
  one-satisfied (TxnHasLevel d) target a known (e, sat) =
      let is : txn_at d Rr ≡ highest p target = sym (ap (highest p) e ∙ highest-txn d) in (
        subst (IsGoalOf p) is known,
        subst (λ g. IsSatisfiedBy p g a) is sat,
      )
  one-satisfied (UseIsWeak d w) target a known h = absurd h

  first-satisfied : (tests : List Test) (target : ℕ) (a : List Bool) → AreTests tests → FirstFails p tests (NoLevel target a) → TopSatisfied target a
  first-satisfied [] target a are h = absurd h
  first-satisfied (t ∷ tests) target a are (inl here) = one-satisfied t target a are.0 here
  first-satisfied (t ∷ tests) target a are (inr later) = first-satisfied tests target a are.1 later.1

  pub top_satisfied : (target : ℕ) (a : List Bool) → FirstFails p (all_tests p) (NoLevel target a) → TopSatisfied target a
  top_satisfied target a h = first-satisfied (all_tests p) target a are-tests h

-- of a typed program
module _ (p : Program) (typed : program_faults p ≡ []) where
  pub top_fails : (e : Classless) → FirstFails p (all_tests p) e → TopFails p e
  top_fails (NoLevel target a) h =
      let top = top_satisfied p target a h in
      goal_fails p typed (highest p target) top.0 a top.1
  top_fails (StrongInTxn txn op) h = tt
  top_fails NoMemory h = tt

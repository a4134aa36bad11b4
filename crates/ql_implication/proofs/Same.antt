-- Truth and executions are the same of both, and so is valid implication.
use Rattle.std.proofs.Common.{◌≡◌, ℕ, ◌<◌, Bool, true, false, not, ◌&&◌, ◌||◌, ◌==◌, nat_eq, List, [], ◌∷◌, map, length, Option, Some, None, refl, sym, subst, ◌∙◌, ap, slice_index}
use Rattle.std.proofs.lemmas.Bool.{both_ways, eqb-true, eq-eqb}
use Rattle.std.proofs.lemmas.List.Folds.{list_all-map}
use Rattle.std.specs.List.{list_all, list_any}
use Rattle.ql_base.specs.IdLists.{has_id}
use Rattle.ql_lang.specs.Trees.{Relation, Basic, Union, Intersection}
use Rattle.ql_lang.specs.Formulas.{Statement, Always, Related, BothOf, IfThen, InOneTxn, Resolved}
use Rattle.ql_lang.specs.Formulas as formula
use Rattle.ql_lang.specs.declared.relation.RelName.{RelName}
use Rattle.ql_lang.specs.declared.relation.RelName.TheVariants.{Vis, So, Soo, SameObj, Eq, Hb, Hbo}
use Rattle.ql_lang.specs.declared.formula.OpChoice.{OpChoice}
use Rattle.ql_lang.specs.declared.formula.OpChoice.TheVariants.{Any, OneOf}
use Rattle.ql_lang.specs.declared.formula.Term.{Term}
use Rattle.ql_lang.specs.declared.formula.Term.TheVariants.{Cur, Var}
use Rattle.ql_levels.specs.declared.level.Level.{Level}
use Rattle.ql_levels.specs.declared.level.TxnLevel.{TxnLevel}
use Rattle.ql_levels.specs.Formulas.{formula_of, txn_formula_of}
use Rattle.ql_exec.specs.declared.effect.Effect.{Effect}
use Rattle.ql_exec.specs.Effects as exec
use Rattle.ql_exec.specs.Relations as relation
use Rattle.ql_exec.specs.Execution as execution
use Rattle.ql_formula.specs.Truth as truth
use Rattle.ql_ground.specs.Relations as ground
use Rattle.ql_ground.specs.Truth as plainly
use Rattle.ql_ground.specs.Implication as implication
use Rattle.ql_implication.specs.Executions.{FitsProgram, IsImplied, IsImpliedTxn}
use Rattle.ql_implication.proofs.Plain.{plain_all, eq-sym, one_at, so-same, vis-same, sameobj-same, soo-same, sametxn-same, inside-same}
use Rattle.ql_implication.proofs.Chains.{hb-same, hbo-same}

named-same : (x : List Effect) (name : RelName) (a b : ℕ) → plainly.named (plain_all x) name a b ≡ truth.named x name a b
named-same x Vis a b = vis-same x a b
named-same x So a b = so-same x a b
named-same x Soo a b = soo-same x a b
named-same x SameObj a b = sameobj-same x a b
named-same x Eq a b = refl
named-same x Hb a b = hb-same x a b
named-same x Hbo a b = hbo-same x a b

related-same : (x : List Effect) (r : Relation) (a b : ℕ) → plainly.related (plain_all x) r a b ≡ truth.related x r a b
related-same x (Basic name at) a b = named-same x name a b
related-same x (Union r s) a b = ap (λ p. p || plainly.related (plain_all x) s a b) (related-same x r a b) ∙ ap (λ p. truth.related x r a b || p) (related-same x s a b)
related-same x (Intersection r s) a b = ap (λ p. p && plainly.related (plain_all x) s a b) (related-same x r a b) ∙ ap (λ p. truth.related x r a b && p) (related-same x s a b)

place-same : (places : List ℕ) (cur : ℕ) (t : Term) → plainly.place_of places cur t ≡ truth.place_of places cur t
place-same places cur Cur = refl
place-same places cur (Var v) = refl

all_same : {X : Type 0} (p q : X → Bool) → ((t : X) → p t ≡ q t) → (xs : List X) → list_all p xs ≡ list_all q xs
all_same p q h [] = refl
all_same p q h (t ∷ xs) = ap (λ b. b && list_all p xs) (h t) ∙ ap (λ b. q t && b) (all_same p q h xs)

-- a test of the terms' effects
terms_same : (p q : ℕ → Bool) → ((a : ℕ) → p a ≡ q a) → (f g : Term → ℕ) → ((t : Term) → f t ≡ g t) → (ts : List Term) → list_all p (map f ts) ≡ list_all (λ t. q (g t)) ts
terms_same p q h f g same ts = list_all-map p f ts ∙ all_same (λ t. p (f t)) (λ t. q (g t)) (λ t. ap p (same t) ∙ h (g t)) ts

nothing : (b : Bool) → b ≡ (b && (true && true))
nothing true = refl
nothing false = refl

module _ (x : List Effect) (current now : ℕ → Bool) (same : (a : ℕ) → current a ≡ now a) (places : List ℕ) (cur : ℕ) where
  abbrev p_of : Term → ℕ
  p_of t = plainly.place_of places cur t

  abbrev q_of : Term → ℕ
  q_of t = truth.place_of places cur t

  not_same : (a : ℕ) → not (current a) ≡ not (now a)
  not_same a = ap not (same a)

  txn-same : (ms os : List Term) → plainly.in_one_txn (plain_all x) current (map p_of ms) (map p_of os) ≡ truth.in_one_txn x now q_of ms os
  txn-same ms [] = terms_same current now same p_of q_of (place-same places cur) ms ∙ nothing (list_all (λ t. now (q_of t)) ms)
  txn-same ms (c ∷ os) =
      ap (λ b. b && (list_all (λ d. not (current d)) (map p_of (c ∷ os)) && list_all (ground.sametxn (plain_all x) (p_of c)) (map p_of (c ∷ os)))) (terms_same current now same p_of q_of (place-same places cur) ms)
      ∙ ap (λ b. list_all (λ t. now (q_of t)) ms && (b && list_all (ground.sametxn (plain_all x) (p_of c)) (map p_of (c ∷ os)))) (terms_same (λ d. not (current d)) (λ d. not (now d)) not_same p_of q_of (place-same places cur) (c ∷ os))
      ∙ ap (λ b. list_all (λ t. now (q_of t)) ms && (list_all (λ t. not (now (q_of t))) (c ∷ os) && b))
      (terms_same (ground.sametxn (plain_all x) (p_of c)) (relation.sametxn x (q_of c)) (λ d. sametxn-same x (p_of c) d ∙ ap (λ a. relation.sametxn x a d) (place-same places cur c)) p_of q_of (place-same places cur) (c ∷ os))

  pub statement-same : (p : Statement) → plainly.statement_true (plain_all x) current places cur p ≡ truth.statement_true x now places cur p
  statement-same Always = refl
  statement-same (Related r t u) =
      related-same x r (p_of t) (p_of u) ∙ ap (λ a. truth.related x r a (p_of u)) (place-same places cur t) ∙ ap (λ a. truth.related x r (q_of t) a) (place-same places cur u)
  statement-same (BothOf p q) = ap (λ b. b && plainly.statement_true (plain_all x) current places cur q) (statement-same p) ∙ ap (λ b. truth.statement_true x now places cur p && b) (statement-same q)
  statement-same (formula.OneOf p q) = ap (λ b. b || plainly.statement_true (plain_all x) current places cur q) (statement-same p) ∙ ap (λ b. truth.statement_true x now places cur p || b) (statement-same q)
  statement-same (IfThen p q) = ap (λ b. not b || plainly.statement_true (plain_all x) current places cur q) (statement-same p) ∙ ap (λ b. not (truth.statement_true x now places cur p) || b) (statement-same q)
  statement-same (InOneTxn ms os) = txn-same ms os

any_has : (ids : List ℕ) (a : ℕ) → list_any (λ o. a == o) ids ≡ has_id ids a
any_has [] a = refl
any_has (o ∷ ids) a = ap (λ b. b || list_any (λ p. a == p) ids) (eq-sym a o) ∙ ap (λ b. nat_eq o a || b) (any_has ids a)

range-same : (x : List Effect) (choice : OpChoice) (p : ℕ) → plainly.in_range (plain_all x) choice p ≡ truth.in_range x choice p
range-same x Any p = one_at (λ e. true) (λ e. true) (λ e. refl) x p
range-same x (OneOf ops) p = one_at (λ e. list_any (λ o. e.op == o) ops) (λ e. has_id ops e.op.0) (λ e. any_has ops e.op.0) x p

pub chosen-to : (x : List Effect) (vars : List OpChoice) (places : List ℕ) → plainly.Chosen (plain_all x) vars places → truth.Chosen x vars places
chosen-to x [] [] c = tt
chosen-to x [] (p ∷ places) c = absurd c
chosen-to x (choice ∷ vars) [] c = absurd c
chosen-to x (choice ∷ vars) (p ∷ places) c = (sym (range-same x choice p) ∙ c.0, chosen-to x vars places c.1)

pub chosen-from : (x : List Effect) (vars : List OpChoice) (places : List ℕ) → truth.Chosen x vars places → plainly.Chosen (plain_all x) vars places
chosen-from x [] [] c = tt
chosen-from x [] (p ∷ places) c = absurd c
chosen-from x (choice ∷ vars) [] c = absurd c
chosen-from x (choice ∷ vars) (p ∷ places) c = (range-same x choice p ∙ c.0, chosen-from x vars places c.1)

-- what is there where a test of one or two effects is true
one-there : (q : Effect → Bool) (o : Option Effect) → exec.one q o ≡ true → (e : Effect) × (o ≡ Some e) × (q e ≡ true)
one-there q None h = absurd (both_ways false refl h)
one-there q (Some e) h = (e, refl, h)

both-there : (q : Effect → Effect → Bool) (o r : Option Effect) → exec.both q o r ≡ true → (e : Effect) × (f : Effect) × (o ≡ Some e) × (r ≡ Some f) × (q e f ≡ true)
both-there q None r h = absurd (both_ways false refl h)
both-there q (Some e) None h = absurd (both_ways false refl h)
both-there q (Some e) (Some f) h = (e, f, refl, refl, h)

on-one : (x : List Effect) (a b : ℕ) (e f : Effect) → exec.effect_at x a ≡ Some e → exec.effect_at x b ≡ Some f → execution.IsOn f.object (exec.effect_at x a) → relation.sameobj x a b ≡ true
on-one x a b e f i j h =
    let there : execution.IsOn f.object (Some e) = subst (execution.IsOn f.object) i h in
    ap (λ o. exec.both (λ u v. nat_eq u.object.0 v.object.0) o (exec.effect_at x b)) i
    ∙ ap (λ o. exec.both (λ u v. nat_eq u.object.0 v.object.0) (Some e) o) j
    ∙ eq-eqb e.object.0 f.object.0 (ap (λ o. o.0) there)

pub execution-same : (x : List Effect) → execution.IsExecution x → ground.IsExecution (plain_all x)
execution-same x law = record {
  sees_earlier = λ a b h.
      let t = both-there (λ e f. has_id f.seen a) (exec.effect_at x a) (exec.effect_at x b) (sym (vis-same x a b) ∙ h) in
      ((law.sees b t.1 t.3).0 a t.4).0;
  sees_own_object = λ a b h.
      let t = both-there (λ e f. has_id f.seen a) (exec.effect_at x a) (exec.effect_at x b) (sym (vis-same x a b) ∙ h) in
      sameobj-same x a b ∙ on-one x a b t.0 t.1 t.2 t.3 ((law.sees b t.1 t.3).0 a t.4).1;
  one_session = λ a b l h. so-same x a b ∙ law.one_session a b l (sym (sametxn-same x a b) ∙ h);
  contiguous = λ a b c h g k. sametxn-same x a b ∙ law.unbroken a b c (sym (sametxn-same x a c) ∙ h) (sym (so-same x a b) ∙ g) (sym (so-same x b c) ∙ k);
}

pub op_at : (x : List Effect) (o a : ℕ) → ground.is_op (plain_all x) o a ≡ exec.one (λ e. nat_eq e.op.0 o) (exec.effect_at x a)
op_at x o a = one_at (λ e. e.op == o) (λ e. nat_eq e.op.0 o) (λ e. refl) x a

some-same : (e f : Effect) (o : Option Effect) → o ≡ Some e → o ≡ Some f → e ≡ f
some-same e f o h g = cc

pub fits-same : (types : List ℕ) (x : List Effect) → FitsProgram types x → implication.FitsProgram types (plain_all x)
fits-same types x fits = record {
  known = λ a o h.
      let t = one-there (λ e. nat_eq e.op.0 o) (exec.effect_at x a) (sym (op_at x o a) ∙ h) in
      subst (λ p. p < length types) (eqb-true t.0.op.0 o t.2) (fits.known a t.0 t.1);
  one_type = λ a b o p h i j.
      let t = one-there (λ e. nat_eq e.op.0 o) (exec.effect_at x a) (sym (op_at x o a) ∙ i) in
      let u = one-there (λ e. nat_eq e.op.0 p) (exec.effect_at x b) (sym (op_at x p b) ∙ j) in
      let v = both-there (λ e f. nat_eq e.object.0 f.object.0) (exec.effect_at x a) (exec.effect_at x b) (sym (sameobj-same x a b) ∙ h) in
      let first : v.0 ≡ t.0 = some-same v.0 t.0 (exec.effect_at x a) v.2 t.1 in
      let second : v.1 ≡ u.0 = some-same v.1 u.0 (exec.effect_at x b) v.3 u.1 in
      let objects : t.0.object.0 ≡ u.0.object.0 = ap (λ (e : Effect). e.object.0) (sym first) ∙ eqb-true v.0.object.0 v.1.object.0 v.4 ∙ ap (λ (e : Effect). e.object.0) second in
      ap (λ k. slice_index types k) (sym (eqb-true t.0.op.0 o t.2)) ∙ fits.one_type a b t.0 u.0 t.1 u.1 objects ∙ ap (λ k. slice_index types k) (eqb-true u.0.op.0 p u.2);
}

pub op_implied : (types : List ℕ) (o : ℕ) (level : Level) (f : Resolved) → implication.Implies types o level f → IsImplied types o level f
op_implied types o level f h x law fits cur e there is_o holds places chosen =
    let none : (a : ℕ) → false ≡ false = λ a. refl in
    let is_cur : ground.is_op (plain_all x) o cur ≡ true = op_at x o cur ∙ ap (exec.one (λ u. nat_eq u.op.0 o)) there ∙ eq-eqb e.op.0 o is_o in
    sym (statement-same x (λ a. false) (λ a. false) none places cur f.body)
    ∙ h (plain_all x) (execution-same x law) (fits-same types x fits) cur is_cur
    (λ ps c. statement-same x (λ a. false) (λ a. false) none ps cur (formula_of level).body ∙ holds ps (chosen-to x (formula_of level).vars ps c))
    places (chosen-from x f.vars places chosen)

pub txn_implied : (types : List ℕ) (level : TxnLevel) (f : Resolved) → implication.ImpliesTxn types level f → IsImpliedTxn types level f
txn_implied types level f h x law fits run holds places chosen =
    sym (statement-same x (ground.inside (plain_all x) run) (relation.inside x run) (inside-same x run) places 0 f.body)
    ∙ h (plain_all x) (execution-same x law) (fits-same types x fits) run
    (λ ps c. statement-same x (ground.inside (plain_all x) run) (relation.inside x run) (inside-same x run) ps 0 (txn_formula_of level).body ∙ holds ps (chosen-to x (txn_formula_of level).vars ps c))
    places (chosen-from x f.vars places chosen)

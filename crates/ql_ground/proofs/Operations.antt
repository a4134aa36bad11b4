-- The groups on operations are true in every execution that fits the program.
use Rattle.std.proofs.Common.{◌≡◌, ℕ, zero, suc, ◌+◌, ◌<◌, ◌≤◌, Bool, true, false, ◌==◌, inl, inr, List, [], ◌∷◌, ◌++◌, map, length, cond, Some, refl, ◌∙◌, ap, arith}
use Rattle.std.proofs.lemmas.Bool.{or_left, or_cases, false≢true, eq-eqb, eqb-false, ltb-true}
use Rattle.std.specs.Prelude.{slice_index, nat_lt}
use Rattle.std.specs.List.{list_all, list_any}
use Rattle.ql_atoms.specs.declared.atoms.Atom.{Atom}
use Rattle.ql_atoms.specs.declared.atoms.Atom.TheVariants.{Pair, Is}
use Rattle.ql_atoms.specs.declared.atoms.PairKind.TheVariants.{SameObj}
use Rattle.ql_atoms.specs.Atoms.{Size}
use Rattle.ql_cnf.specs.Satisfaction.{clause_true}
use Rattle.ql_lang.specs.declared.formula.OpChoice.{OpChoice}
use Rattle.ql_lang.specs.declared.formula.OpChoice.TheVariants.{Any, OneOf}
use Rattle.ql_ground.specs.Effects.{Effect, effect_at}
use Rattle.ql_ground.specs.Relations.{is_op}
use Rattle.ql_ground.specs.Truth.{Chosen}
use Rattle.ql_ground.specs.Implication.{FitsProgram}
use Rattle.ql_typing.specs.WellFormed.{AreBelow, AreChoicesOf}
use Rattle.ql_base.specs.Ranges.{upto}
use Rattle.ql_base.specs.Ids.{op}
use Rattle.ql_ground.specs.Ground.{implication, some_operation, one_operation, one_type, all_variable_operations}
use Rattle.ql_ground.proofs.Laws.{is_op-one, one-found, found-one}
use Rattle.ql_ground.proofs.Upto.{all-append, upto-all, upto-any}
use Rattle.ql_ground.proofs.ReadOff.{ReadsOff}
use Rattle.ql_ground.proofs.Instances.{implied-from, AllTrue, SomeTrue, AllFit, implication-true, one_clause}
use Rattle.ql_ground.proofs.Axioms.{atom_true}

AllFit-append : (s : Size) (p q : List Atom) → AllFit s p → AllFit s q → AllFit s (p ++ q)
AllFit-append s [] q f g = g
AllFit-append s (a ∷ p) q f g = (f.0, AllFit-append s p q f.1 g)

pub AllFit-upto : (s : Size) (n : ℕ) (f : ℕ → List Atom) → ((i : ℕ) → i < n → AllFit s (f i)) → AllFit s (upto n f)
AllFit-upto s zero f h = tt
AllFit-upto s (suc n) f h = AllFit-append s (upto n f) (f n) (AllFit-upto s n f (λ i l. h i (omega arith))) (h n (omega arith))

-- some of these is true
pub some_from : (t : Atom → Bool) (atoms : List Atom) → list_any t atoms ≡ true → SomeTrue (map t atoms)
some_from t [] h = absurd (false≢true h)
some_from t (a ∷ atoms) h = elim (or_cases (t a) (list_any t atoms) h) [ inl here ↦ inl here | inr more ↦ inr (some_from t atoms more) ]

module _ (x : List Effect) (types : List ℕ) (fits : FitsProgram types x) (current : ℕ → Bool) (effects : List ℕ) (s : Size) (sized : s.operations ≡ length types) (there : (i : ℕ) → i < s.constants → (e : Effect) × (effect_at x (slice_index effects i) ≡ Some e)) (assigned : List Bool) (reads : ReadsOff assigned s (atom_true x current effects)) where
  abbrev t : Atom → Bool
  t a = atom_true x current effects a

  clause : (hs cs : List Atom) → AllFit s hs → AllFit s cs → (AllTrue (map t hs) → SomeTrue (map t cs)) → list_all (clause_true assigned) (implication s hs cs ∷ []) ≡ true
  clause hs cs f g h =
      one_clause assigned s t reads (implication s hs cs) (implication-true assigned s t reads hs cs f g (implied-from (map t hs) (map t cs) h))

  pub some_operation-true : list_all (clause_true assigned) (some_operation s) ≡ true
  some_operation-true = upto-all (clause_true assigned) s.constants (λ i. implication s [] (upto s.operations (λ o. Is (op o) i ∷ [])) ∷ []) (λ i l.
      let e = there i l in
      let own : is_op x e.0.op (slice_index effects i) ≡ true = found-one (λ f. f.op == e.0.op) (effect_at x (slice_index effects i)) e.0 e.1 (eq-eqb e.0.op e.0.op refl) in
      let known : e.0.op < s.operations = omega (arith, fits.known (slice_index effects i) e.0.op own) in
      clause [] (upto s.operations (λ o. Is (op o) i ∷ [])) tt (AllFit-upto s s.operations (λ o. Is (op o) i ∷ []) (λ o m. ((m, l), tt)))
      (λ g. some_from t (upto s.operations (λ o. Is (op o) i ∷ [])) (upto-any t s.operations (λ o. Is (op o) i ∷ []) e.0.op known (or_left (is_op x e.0.op (slice_index effects i)) false own))))

  pub one_operation-true : list_all (clause_true assigned) (one_operation s) ≡ true
  one_operation-true =
      upto-all (clause_true assigned) s.constants _ (λ i l.
      upto-all (clause_true assigned) s.operations _ (λ o m.
      upto-all (clause_true assigned) s.operations (λ p. cond (nat_lt o p) (implication s (Is (op o) i ∷ Is (op p) i ∷ []) [] ∷ []) []) (λ p n.
      two i o p l m n (nat_lt o p) refl)))
    where
      two : (i o p : ℕ) → i < s.constants → o < s.operations → p < s.operations → (b : Bool) → nat_lt o p ≡ b → list_all (clause_true assigned) (cond b (implication s (Is (op o) i ∷ Is (op p) i ∷ []) [] ∷ []) []) ≡ true
      two i o p l m n false e = refl
      two i o p l m n true e = clause (Is (op o) i ∷ Is (op p) i ∷ []) [] ((m, l), ((n, l), tt)) tt
          (λ g. let less : o < p = ltb-true o p e in let same : o ≡ p = is_op-one x o p (slice_index effects i) g.0 g.1.0 in omega arith)

  pub one_type-true : list_all (clause_true assigned) (one_type types s) ≡ true
  one_type-true =
      upto-all (clause_true assigned) s.constants _ (λ i l.
      upto-all (clause_true assigned) s.constants _ (λ j k.
      upto-all (clause_true assigned) s.operations _ (λ o m.
      upto-all (clause_true assigned) s.operations (λ p. cond (slice_index types o == slice_index types p) [] (implication s (Pair SameObj i j ∷ Is (op o) i ∷ Is (op p) j ∷ []) [] ∷ [])) (λ p n.
      other i j o p l k m n (slice_index types o == slice_index types p) refl))))
    where
      other : (i j o p : ℕ) → i < s.constants → j < s.constants → o < s.operations → p < s.operations → (b : Bool) → (slice_index types o == slice_index types p) ≡ b → list_all (clause_true assigned) (cond b [] (implication s (Pair SameObj i j ∷ Is (op o) i ∷ Is (op p) j ∷ []) [] ∷ [])) ≡ true
      other i j o p l k m n true e = refl
      other i j o p l k m n false e = clause (Pair SameObj i j ∷ Is (op o) i ∷ Is (op p) j ∷ []) [] ((l, k), ((m, l), ((n, k), tt))) tt
          (λ g. eqb-false (slice_index types o) (slice_index types p) e (fits.one_type (slice_index effects i) (slice_index effects j) o p g.0 g.1.0 g.1.1.0))

  pub own_operation-true : (o : ℕ) (i : ℕ) → o < s.operations → i < s.constants → is_op x o (slice_index effects i) ≡ true → list_all (clause_true assigned) (implication s [] (Is (op o) i ∷ []) ∷ []) ≡ true
  own_operation-true o i l m h = clause [] (Is (op o) i ∷ []) tt ((l, m), tt) (λ g. inl h)

  ops-fit : (ops : List ℕ) (v : ℕ) → AreBelow s.operations ops → v < s.constants → AllFit s (map (λ o. Is (op o) v) ops)
  ops-fit [] v b l = tt
  ops-fit (o ∷ ops) v b l = ((b.0, l), ops-fit ops v b.1 l)

  ops-some : (ops : List ℕ) (v p : ℕ) (e : Effect) → slice_index effects v ≡ p → effect_at x p ≡ Some e → list_any (λ o. e.op == o) ops ≡ true → SomeTrue (map t (map (λ o. Is (op o) v) ops))
  ops-some [] v p e same is h = absurd (false≢true h)
  ops-some (o ∷ ops) v p e same is h = elim (or_cases (e.op == o) (list_any (λ q. e.op == q) ops) h) [
    | inl here ↦ inl (ap (λ a. is_op x o a) same ∙ found-one (λ f. f.op == o) (effect_at x p) e is here)
    | inr more ↦ inr (ops-some ops v p e same is more)
  ]

  -- 33: the variables that name operations
  pub variables-true : (vars : List OpChoice) (places : List ℕ) (v : ℕ) → AreChoicesOf s.operations vars → Chosen x vars places → v + length vars ≤ s.constants → ((i : ℕ) → i < length vars → slice_index effects (v + i) ≡ slice_index places i) → list_all (clause_true assigned) (all_variable_operations s v vars) ≡ true
  variables-true [] places v b c l h = refl
  variables-true (Any ∷ vars) [] v b c l h = absurd c
  variables-true (OneOf ops ∷ vars) [] v b c l h = absurd c
  variables-true (Any ∷ vars) (p ∷ places) v b c l h =
      variables-true vars places (suc v) b c.1 (omega arith) (λ i m. ap (λ k. slice_index effects k) (omega arith) ∙ h (suc i) (omega arith))
  variables-true (OneOf ops ∷ vars) (p ∷ places) v b c l h =
      let found = one-found (λ e. list_any (λ o. e.op == o) ops) (effect_at x p) c.0 in
      let here : slice_index effects v ≡ p = ap (λ k. slice_index effects k) (omega arith) ∙ h 0 (omega arith) in
      all-append (clause_true assigned) (implication s [] (map (λ o. Is (op o) v) ops) ∷ []) (all_variable_operations s (suc v) vars)
      (clause [] (map (λ o. Is (op o) v) ops) tt (ops-fit ops v b.0 (omega arith)) (λ g. ops-some ops v p found.effect here found.effect_is found.holds))
      (variables-true vars places (suc v) b.1 c.1 (omega arith) (λ i m. ap (λ k. slice_index effects k) (omega arith) ∙ h (suc i) (omega arith)))

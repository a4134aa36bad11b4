-- What true clauses say: where a rule's hypotheses are true, one of its conclusions is.
use Rattle.std.proofs.Common.{◌≡◌, ℕ, zero, suc, ◌<◌, Bool, true, false, not, ◌||◌, ◌&&◌, inl, inr, List, [], ◌∷◌, ◌++◌, map, length, Some, refl, sym, ap, subst, ◌∙◌, arith}
use Rattle.std.proofs.lemmas.Bool.{and_parts, both_ways, cases_lt, not-true, or_cases}
use Rattle.std.proofs.lemmas.List.Folds.{list_all-append}
use Rattle.std.specs.Prelude.{slice_get}
use Rattle.std.specs.Bool.{beq}
use Rattle.std.specs.List.{list_all, list_any}
use Rattle.ql_base.specs.Ranges.{upto}
use Rattle.ql_atoms.specs.declared.atoms.Atom.{Atom}
use Rattle.ql_atoms.specs.Atoms.{Size, number_of}
use Rattle.ql_cnf.specs.declared.lit.Lit.{Lit}
use Rattle.ql_cnf.specs.Circuits.{Circuit, yes, no, circuit_true, defining, denying, output}
use Rattle.ql_cnf.specs.Literals.{negated}
use Rattle.ql_cnf.specs.Satisfaction.{variable_value, literal_true, clause_true}
use Rattle.ql_cnf.proofs.CircuitLaws.{forced, negated-true}
use Rattle.ql_ground.specs.Rules.{Rule}
use Rattle.ql_ground.specs.Ground.{choices, at, implication, instances, all_instances}
use Rattle.ql_ground.proofs.Upto.{AllBelow}
use Rattle.ql_ground.proofs.Instances.{AllTrue, SomeTrue}

-- what all items pass, each part's do
pub upto-each : {X : Type 0} (p : X → Bool) (n : ℕ) (f : ℕ → List X) → list_all p (upto n f) ≡ true → (i : ℕ) → i < n → list_all p (f i) ≡ true
upto-each p zero f h i l = absurd (omega (arith, l))
upto-each p (suc n) f h i l =
    let parts = and_parts (list_all p (upto n f)) (list_all p (f n)) (sym (list_all-append p (upto n f) (f n)) ∙ h) in
    elim (cases_lt i n) [
      | inl less ↦ upto-each p n f parts.0 i less
      | inr more ↦ ap (λ k. list_all p (f k)) (omega (arith, l, more)) ∙ parts.1
    ]

choices-each : {X : Type 0} (p : X → Bool) (n k : ℕ) (f : List ℕ → List X) → list_all p (choices n k f) ≡ true → (constants : List ℕ) → length constants ≡ k → AllBelow n constants → list_all p (f constants) ≡ true
choices-each p n zero f h [] e b = h
choices-each p n zero f h (x ∷ xs) e b = absurd (omega (arith, e))
choices-each p n (suc k) f h [] e b = absurd (omega (arith, e))
choices-each p n (suc k) f h (x ∷ xs) e b = choices-each p n k (λ rest. f (x ∷ rest)) (upto-each p n (λ first. choices n k (λ rest. f (first ∷ rest))) h x b.0) xs (omega (arith, e)) b.1

beq-true : (b : Bool) → beq b true ≡ b
beq-true true = refl
beq-true false = refl

beq-false : (b : Bool) → beq b false ≡ not b
beq-false true = refl
beq-false false = refl

module _ (a : List Bool) (s : Size) where
  abbrev pub value : Atom → Bool
  value x = variable_value a (number_of s x)

  -- these clauses are true
  abbrev pub AllHold : List (List Lit) → Type 0
  AllHold lists = list_all (clause_true a) lists ≡ true

  pub both-hold : (x y : List (List Lit)) → AllHold (x ++ y) → AllHold x × AllHold y
  both-hold x y h = and_parts (list_all (clause_true a) x) (list_all (clause_true a) y) (sym (list_all-append (clause_true a) x y) ∙ h)

  pub yes-value : (x : Atom) → literal_true a (yes (number_of s x)) ≡ value x
  yes-value x = beq-true (value x)

  pub no-value : (x : Atom) → literal_true a (no (number_of s x)) ≡ not (value x)
  no-value x = beq-false (value x)

  concludes : (cs : List Atom) → list_any (literal_true a) (map (λ x. yes (number_of s x)) cs) ≡ true → SomeTrue (map value cs)
  concludes [] h = absurd (both_ways false refl h)
  concludes (c ∷ cs) h = elim (or_cases (literal_true a (yes (number_of s c))) _ h) [
    | inl here ↦ inl (sym (yes-value c) ∙ here)
    | inr later ↦ inr (concludes cs later)
  ]

  -- a true clause fires
  pub fires : (hs cs : List Atom) → clause_true a (implication s hs cs) ≡ true → AllTrue (map value hs) → SomeTrue (map value cs)
  fires [] cs h all = concludes cs h
  fires (x ∷ hs) cs h all = elim (or_cases (literal_true a (no (number_of s x))) _ h) [
    | inl broken ↦ absurd (both_ways (value x) (not-true (value x) (sym (no-value x) ∙ broken)) all.0)
    | inr rest ↦ fires hs cs rest all.1
  ]

  pub only : (b : Bool) → (b && true) ≡ true → b ≡ true
  only true h = refl
  only false h = absurd (both_ways false refl h)

  -- a rule whose clauses are true fires
  pub use_rule : (r : Rule) → AllHold (instances s r) → (constants : List ℕ) → length constants ≡ r.places → AllBelow s.constants constants → AllTrue (map value (map (at s constants) r.hypotheses)) → SomeTrue (map value (map (at s constants) r.conclusions))
  use_rule r h constants e b =
      fires (map (at s constants) r.hypotheses) (map (at s constants) r.conclusions)
      (only (clause_true a (implication s (map (at s constants) r.hypotheses) (map (at s constants) r.conclusions)))
      (choices-each (clause_true a) s.constants r.places (λ k. implication s (map (at s k) r.hypotheses) (map (at s k) r.conclusions) ∷ []) h constants e b))

  -- the rule of a place in a list
  pub pick : (rules : List Rule) (k : ℕ) (r : Rule) → slice_get rules k ≡ Some r → AllHold (all_instances s rules) → AllHold (instances s r)
  pick [] k r e h = absurd (cc)
  pick (q ∷ rules) zero r e h = let same : q ≡ r = cc in subst (λ z. AllHold (instances s z)) same (both-hold (instances s q) (all_instances s rules) h).0
  pick (q ∷ rules) (suc k) r e h = pick rules k r e (both-hold (instances s q) (all_instances s rules) h).1

  -- a circuit that is denied is false
  pub denied : (k : ℕ) (g : Circuit) → AllHold (denying k g) → circuit_true a g ≡ false
  denied k g h =
      let both = both-hold (defining k g) ((negated (output k g) ∷ []) ∷ []) h in
      let out = only (literal_true a (negated (output k g)) || false) both.1 in
      sym (forced a k g both.0) ∙ not-true (literal_true a (output k g)) (sym (negated-true a (output k g)) ∙ alone (literal_true a (negated (output k g))) out)
    where
      alone : (b : Bool) → (b || false) ≡ true → b ≡ true
      alone true h = refl
      alone false h = h

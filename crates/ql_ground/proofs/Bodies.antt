-- The circuit of a body has the truth value of the body.
use Rattle.std.proofs.Common.{◌≡◌, ℕ, ◌<◌, Bool, true, false, not, ◌&&◌, ◌||◌, List, [], ◌∷◌, ◌++◌, map, refl, ◌∙◌, ap}
use Rattle.std.proofs.lemmas.Bool.{and_from, and_parts, both_ways, false_from_ne_true, not_from_false}
use Rattle.std.proofs.lemmas.List.Folds.{list_all-append}
use Rattle.std.specs.Prelude.{slice_index}
use Rattle.std.specs.Bool.{beq}
use Rattle.std.specs.List.{list_all}
use Rattle.ql_atoms.specs.declared.atoms.Atom.{Atom}
use Rattle.ql_atoms.specs.declared.atoms.Atom.TheVariants.{Pair, Current}
use Rattle.ql_atoms.specs.declared.atoms.PairKind.TheVariants as kind
use Rattle.ql_atoms.specs.Atoms.{Size, Fits, number_of}
use Rattle.ql_cnf.specs.Circuits.{Circuit, Both, circuit_true}
use Rattle.ql_cnf.specs.Satisfaction.{variable_value}
use Rattle.ql_lang.specs.Trees.{Relation, Basic, Union, Intersection}
use Rattle.ql_lang.specs.Formulas.{Statement, Always, Related, BothOf, OneOf, IfThen, InOneTxn}
use Rattle.ql_lang.specs.declared.relation.RelName.{RelName}
use Rattle.ql_lang.specs.declared.relation.RelName.TheVariants.{Vis, So, Soo, SameObj, Eq, Hb, Hbo}
use Rattle.ql_lang.specs.declared.formula.Term.{Term}
use Rattle.ql_ground.specs.Effects.{Effect}
use Rattle.ql_ground.specs.Relations.{so, sametxn}
use Rattle.ql_ground.specs.Truth.{named, related, in_one_txn, place_of, statement_true}
use Rattle.ql_typing.specs.WellFormed.{IsTermOf, AreTermsOf, IsBodyOf}
use Rattle.ql_ground.specs.Bodies.{constant_of, holds, fails, named_circuit, relation_circuit, grouped, all_of, other_circuits, txn_circuit, body_circuit}
use Rattle.ql_ground.proofs.Laws.{sametxn-refl, sametxn-sym}
use Rattle.ql_ground.proofs.ReadOff.{ReadsOff}
use Rattle.ql_ground.proofs.Axioms.{atom_true}

beq-true : (b : Bool) → beq b true ≡ b
beq-true true = refl
beq-true false = refl

beq-false : (b : Bool) → beq b false ≡ not b
beq-false true = refl
beq-false false = refl

-- effects of one transaction: the first isn't current, or none is
pub others-law : (x : List Effect) (current : ℕ → Bool) → ((a b : ℕ) → current a ≡ true → sametxn x a b ≡ true → current b ≡ true) → (c : ℕ) (ds : List ℕ) → (not (current c) && list_all (sametxn x c) ds) ≡ (list_all (λ d. not (current d)) (c ∷ ds) && list_all (sametxn x c) (c ∷ ds))
others-law x current closed c ds = step (current c) refl (list_all (sametxn x c) ds) refl
  where
    none : (ds : List ℕ) → current c ≡ false → list_all (sametxn x c) ds ≡ true → list_all (λ d. not (current d)) ds ≡ true
    none [] e h = refl
    none (d ∷ ds) e h =
        let parts = and_parts (sametxn x c d) (list_all (sametxn x c) ds) h in
        and_from (not (current d)) _ (not_from_false (current d) (false_from_ne_true (current d) (λ i. both_ways (current c) e (closed d c i (sametxn-sym x c d parts.0))))) (none ds e parts.1)

    step : (b : Bool) → current c ≡ b → (same : Bool) → list_all (sametxn x c) ds ≡ same → (not (current c) && list_all (sametxn x c) ds) ≡ (list_all (λ d. not (current d)) (c ∷ ds) && list_all (sametxn x c) (c ∷ ds))
    step true e same g = rw e refl
    step false e true g = let rest : list_all (λ d. not (current d)) ds ≡ true = none ds e g in rw (e, g, rest, sametxn-refl x c) refl
    step false e false g = rw (e, g, sametxn-refl x c) (nothing (list_all (λ d. not (current d)) ds))
      where
        nothing : (b : Bool) → false ≡ (b && false)
        nothing true = refl
        nothing false = refl

module _ (x : List Effect) (current : ℕ → Bool) (closed : (a b : ℕ) → current a ≡ true → sametxn x a b ≡ true → current b ≡ true) (effects : List ℕ) (s : Size) (assigned : List Bool) (reads : ReadsOff assigned s (atom_true x current effects)) where
  abbrev place : ℕ → ℕ
  place i = slice_index effects i

  holds-true : (a : Atom) → Fits s a → circuit_true assigned (holds s a) ≡ atom_true x current effects a
  holds-true a f = beq-true (variable_value assigned (number_of s a)) ∙ reads.value a f

  fails-true : (a : Atom) → Fits s a → circuit_true assigned (fails s a) ≡ not (atom_true x current effects a)
  fails-true a f = beq-false (variable_value assigned (number_of s a)) ∙ ap not (reads.value a f)

  named-true : (name : RelName) (i j : ℕ) → i < s.constants → j < s.constants → circuit_true assigned (named_circuit s name i j) ≡ named x name (place i) (place j)
  named-true Vis i j l m = holds-true (Pair kind.Vis i j) (l, m)
  named-true So i j l m = holds-true (Pair kind.So i j) (l, m)
  named-true SameObj i j l m = holds-true (Pair kind.SameObj i j) (l, m)
  named-true Eq i j l m = holds-true (Pair kind.Eq i j) (l, m)
  named-true Hb i j l m = holds-true (Pair kind.Hb i j) (l, m)
  named-true Hbo i j l m = holds-true (Pair kind.Hbo i j) (l, m)
  named-true Soo i j l m =
      ap (λ b. b && circuit_true assigned (holds s (Pair kind.SameObj i j))) (holds-true (Pair kind.So i j) (l, m))
      ∙ ap (λ b. so x (place i) (place j) && b) (holds-true (Pair kind.SameObj i j) (l, m))

  relation-true : (r : Relation) (i j : ℕ) → i < s.constants → j < s.constants → circuit_true assigned (relation_circuit s r i j) ≡ related x r (place i) (place j)
  relation-true (Basic name at) i j l m = named-true name i j l m
  relation-true (Union p q) i j l m =
      ap (λ b. b || circuit_true assigned (relation_circuit s q i j)) (relation-true p i j l m)
      ∙ ap (λ b. related x p (place i) (place j) || b) (relation-true q i j l m)
  relation-true (Intersection p q) i j l m =
      ap (λ b. b && circuit_true assigned (relation_circuit s q i j)) (relation-true p i j l m)
      ∙ ap (λ b. related x p (place i) (place j) && b) (relation-true q i j l m)

  grouped-true : (g : Circuit) (hs : List Circuit) → circuit_true assigned (grouped g hs) ≡ (circuit_true assigned g && list_all (circuit_true assigned) hs)
  grouped-true g [] = and_true (circuit_true assigned g)
    where
      and_true : (b : Bool) → b ≡ (b && true)
      and_true true = refl
      and_true false = refl
  grouped-true g (h ∷ hs) = grouped-true (Both g h) hs ∙ and_assoc (circuit_true assigned g) (circuit_true assigned h) (list_all (circuit_true assigned) hs)
    where
      and_assoc : (a b c : Bool) → ((a && b) && c) ≡ (a && (b && c))
      and_assoc true b c = refl
      and_assoc false b c = refl

  all_of-true : (hs : List Circuit) → circuit_true assigned (all_of hs) ≡ list_all (circuit_true assigned) hs
  all_of-true [] = refl
  all_of-true (g ∷ hs) = grouped-true g hs

  AllConstants : List ℕ → Type 0
  AllConstants [] = Unit {0}
  AllConstants (c ∷ cs) = (c < s.constants) × AllConstants cs

  members-true : (ms : List ℕ) → AllConstants ms → list_all (circuit_true assigned) (map (λ m. holds s (Current m)) ms) ≡ list_all current (map place ms)
  unfolding AllConstants
  members-true [] f = refl
  members-true (m ∷ ms) f =
      ap (λ b. b && list_all (circuit_true assigned) (map (λ k. holds s (Current k)) ms)) (holds-true (Current m) f.0)
      ∙ ap (λ b. current (place m) && b) (members-true ms f.1)

  same-true : (c : ℕ) (ds : List ℕ) → c < s.constants → AllConstants ds → list_all (circuit_true assigned) (map (λ d. holds s (Pair kind.SameTxn c d)) ds) ≡ list_all (sametxn x (place c)) (map place ds)
  unfolding AllConstants
  same-true c [] l f = refl
  same-true c (d ∷ ds) l f =
      ap (λ b. b && list_all (circuit_true assigned) (map (λ k. holds s (Pair kind.SameTxn c k)) ds)) (holds-true (Pair kind.SameTxn c d) (l, f.0))
      ∙ ap (λ b. sametxn x (place c) (place d) && b) (same-true c ds l f.1)

  txn-true : (ms os : List ℕ) → AllConstants ms → AllConstants os → circuit_true assigned (txn_circuit s ms os) ≡ in_one_txn x current (map place ms) (map place os)
  unfolding AllConstants
  txn-true ms [] f g =
      all_of-true (map (λ m. holds s (Current m)) ms ++ [])
      ∙ list_all-append (circuit_true assigned) (map (λ m. holds s (Current m)) ms) []
      ∙ ap (λ b. b && true) (members-true ms f) ∙ and_true (list_all current (map place ms))
    where
      and_true : (b : Bool) → (b && true) ≡ b
      and_true true = refl
      and_true false = refl
  txn-true ms (c ∷ os) f g =
      all_of-true (map (λ m. holds s (Current m)) ms ++ other_circuits s (c ∷ os))
      ∙ list_all-append (circuit_true assigned) (map (λ m. holds s (Current m)) ms) (other_circuits s (c ∷ os))
      ∙ ap (λ b. b && list_all (circuit_true assigned) (other_circuits s (c ∷ os))) (members-true ms f)
      ∙ ap (λ b. list_all current (map place ms) && b)
      (ap (λ b. b && list_all (circuit_true assigned) (map (λ d. holds s (Pair kind.SameTxn c d)) os)) (fails-true (Current c) g.0)
      ∙ ap (λ b. not (current (place c)) && b) (same-true c os g.0 g.1)
      ∙ others-law x current closed (place c) (map place os))

  module _ (n : ℕ) (has_current : Bool) (places : List ℕ) (cur : ℕ) (terms : (t : Term) → IsTermOf n has_current t → (constant_of s t < s.constants) × (place (constant_of s t) ≡ place_of places cur t)) where
    constants : (ts : List Term) → AreTermsOf n has_current ts → AllConstants (map (constant_of s) ts)
    unfolding AllConstants
    constants [] h = tt
    constants (t ∷ ts) h = ((terms t h.0).0, constants ts h.1)

    places-of : (ts : List Term) → AreTermsOf n has_current ts → map place (map (constant_of s) ts) ≡ map (place_of places cur) ts
    places-of [] h = refl
    places-of (t ∷ ts) h = ap (λ p. p ∷ map place (map (constant_of s) ts)) (terms t h.0).1 ∙ ap (λ ps. place_of places cur t ∷ ps) (places-of ts h.1)

    pub body-true : (p : Statement) → IsBodyOf n has_current p → circuit_true assigned (body_circuit s p) ≡ statement_true x current places cur p
    body-true Always h = refl
    body-true (Related r t u) h =
        relation-true r (constant_of s t) (constant_of s u) (terms t h.0).0 (terms u h.1).0
        ∙ ap (λ a. related x r a (place (constant_of s u))) (terms t h.0).1
        ∙ ap (λ a. related x r (place_of places cur t) a) (terms u h.1).1
    body-true (BothOf p q) h =
        ap (λ b. b && circuit_true assigned (body_circuit s q)) (body-true p h.0) ∙ ap (λ b. statement_true x current places cur p && b) (body-true q h.1)
    body-true (OneOf p q) h =
        ap (λ b. b || circuit_true assigned (body_circuit s q)) (body-true p h.0) ∙ ap (λ b. statement_true x current places cur p || b) (body-true q h.1)
    body-true (IfThen p q) h =
        ap (λ b. not b || circuit_true assigned (body_circuit s q)) (body-true p h.0) ∙ ap (λ b. not (statement_true x current places cur p) || b) (body-true q h.1)
    body-true (InOneTxn ms os) h =
        txn-true (map (constant_of s) ms) (map (constant_of s) os) (constants ms h.0) (constants os h.1)
        ∙ ap (λ ps. in_one_txn x current ps (map place (map (constant_of s) os))) (places-of ms h.0)
        ∙ ap (λ ps. in_one_txn x current (map (place_of places cur) ms) ps) (places-of os h.1)

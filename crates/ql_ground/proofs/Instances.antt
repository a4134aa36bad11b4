-- A rule that is true of the chosen effects at every choice has true clauses.
use Rattle.std.proofs.Common.{◌≡◌, ℕ, zero, suc, ◌<◌, Bool, true, false, not, ◌||◌, ◌⊎◌, inl, inr, List, [], ◌∷◌, map, length, refl, ◌∙◌, ap, arith}
use Rattle.std.proofs.lemmas.Bool.{and_from, or_left, or_right}
use Rattle.std.proofs.lemmas.List.Folds.{list_any-append}
use Rattle.std.specs.Bool.{beq}
use Rattle.std.specs.List.{list_all, list_any}
use Rattle.ql_atoms.specs.declared.atoms.Atom.{Atom}
use Rattle.ql_atoms.specs.declared.atoms.Atom.TheVariants.{Pair, Current, Is}
use Rattle.ql_atoms.specs.Atoms.{Size, Fits, number_of}
use Rattle.ql_cnf.specs.declared.lit.Lit.{Lit}
use Rattle.ql_cnf.specs.Circuits.{yes, no}
use Rattle.ql_cnf.specs.Satisfaction.{variable_value, literal_true, clause_true}
use Rattle.ql_ground.specs.Rules.{Rule}
use Rattle.ql_ground.specs.Ground.{implication, chosen, at, instances}
use Rattle.ql_ground.specs.Parts.{instance}
use Rattle.ql_ground.proofs.Upto.{ForEach, AllBelow, each-at, choices-all}
use Rattle.ql_ground.proofs.ReadOff.{ReadsOff}

-- where all hypotheses are true, one of the conclusions is
unfoldable pub implied : List Bool → List Bool → Bool
implied hs cs = list_any not hs || list_any (λ b. b) cs

abbrev pub AllTrue : List Bool → Type 0
AllTrue [] = Unit {0}
AllTrue (h ∷ hs) = (h ≡ true) × AllTrue hs

abbrev pub SomeTrue : List Bool → Type 0
SomeTrue [] = ⊥
SomeTrue (c ∷ cs) = (c ≡ true) ⊎ SomeTrue cs

some_true : (cs : List Bool) → SomeTrue cs → list_any (λ b. b) cs ≡ true
some_true [] h = absurd h
some_true (c ∷ cs) (inl h) = or_left c (list_any (λ b. b) cs) h
some_true (c ∷ cs) (inr h) = or_right c (list_any (λ b. b) cs) (some_true cs h)

all_or_not : (hs : List Bool) → (list_any not hs ≡ true) ⊎ AllTrue hs
all_or_not [] = inr tt
all_or_not (true ∷ hs) = elim (all_or_not hs) [ inl h ↦ inl h | inr h ↦ inr (refl, h) ]
all_or_not (false ∷ hs) = inl refl

pub implied-from : (hs cs : List Bool) → (AllTrue hs → SomeTrue cs) → implied hs cs ≡ true
unfolding implied
implied-from hs cs h = elim (all_or_not hs) [
  | inl no_hypothesis ↦ or_left (list_any not hs) (list_any (λ b. b) cs) no_hypothesis
  | inr all ↦ or_right (list_any not hs) (list_any (λ b. b) cs) (some_true cs (h all))
]

-- the atoms are of the size
abbrev pub AllFit : Size → List Atom → Type 0
AllFit s [] = Unit {0}
AllFit s (a ∷ atoms) = Fits s a × AllFit s atoms

-- the operations of an atom are of the size
abbrev pub OpFits : Size → Atom → Type 0
OpFits s (Pair r i j) = Unit {0}
OpFits s (Current i) = Unit {0}
OpFits s (Is o i) = o.0 < s.operations

abbrev pub OpsFit : Size → List Atom → Type 0
OpsFit s [] = Unit {0}
OpsFit s (a ∷ atoms) = OpFits s a × OpsFit s atoms

beq-true : (b : Bool) → beq b true ≡ b
beq-true true = refl
beq-true false = refl

beq-false : (b : Bool) → beq b false ≡ not b
beq-false true = refl
beq-false false = refl

module _ (assigned : List Bool) (s : Size) (t : Atom → Bool) (reads : ReadsOff assigned s t) where
  no_true : (atoms : List Atom) → AllFit s atoms → list_any (literal_true assigned) (map (λ a. no (number_of s a)) atoms) ≡ list_any not (map t atoms)
  no_true [] h = refl
  no_true (a ∷ atoms) h =
      ap (λ b. b || list_any (literal_true assigned) (map (λ c. no (number_of s c)) atoms)) (beq-false (variable_value assigned (number_of s a)) ∙ ap not (reads.value a h.0))
      ∙ ap (λ b. not (t a) || b) (no_true atoms h.1)

  yes_true : (atoms : List Atom) → AllFit s atoms → list_any (literal_true assigned) (map (λ a. yes (number_of s a)) atoms) ≡ list_any (λ b. b) (map t atoms)
  yes_true [] h = refl
  yes_true (a ∷ atoms) h =
      ap (λ b. b || list_any (literal_true assigned) (map (λ c. yes (number_of s c)) atoms)) (beq-true (variable_value assigned (number_of s a)) ∙ reads.value a h.0)
      ∙ ap (λ b. t a || b) (yes_true atoms h.1)

  pub implication-true : (hs cs : List Atom) → AllFit s hs → AllFit s cs → implied (map t hs) (map t cs) ≡ true → clause_true assigned (implication s hs cs) ≡ true
  unfolding implied
  implication-true hs cs f g h =
      list_any-append (literal_true assigned) (map (λ a. no (number_of s a)) hs) (map (λ a. yes (number_of s a)) cs)
      ∙ ap (λ b. b || list_any (literal_true assigned) (map (λ a. yes (number_of s a)) cs)) (no_true hs f)
      ∙ ap (λ b. list_any not (map t hs) || b) (yes_true cs g)
      ∙ h

  -- one clause is a list of clauses
  pub one_clause : (c : List Lit) → clause_true assigned c ≡ true → list_all (clause_true assigned) (c ∷ []) ≡ true
  one_clause c h = and_from (clause_true assigned c) true h refl

  chosen-below : (constants : List ℕ) (place : ℕ) → 0 < s.constants → AllBelow s.constants constants → chosen s constants place < s.constants
  unfolding chosen
  chosen-below [] place pos b = omega arith
  chosen-below (x ∷ xs) zero pos b = b.0
  chosen-below (x ∷ xs) (suc place) pos b = chosen-below xs place pos b.1

  at-fits : (constants : List ℕ) (a : Atom) → 0 < s.constants → AllBelow s.constants constants → OpFits s a → Fits s (at s constants a)
  at-fits constants (Pair r i j) pos b f = (chosen-below constants i pos b, chosen-below constants j pos b)
  at-fits constants (Current i) pos b f = chosen-below constants i pos b
  at-fits constants (Is o i) pos b f = (f, chosen-below constants i pos b)

  all-at-fit : (constants : List ℕ) (atoms : List Atom) → 0 < s.constants → AllBelow s.constants constants → OpsFit s atoms → AllFit s (map (at s constants) atoms)
  all-at-fit constants [] pos b f = tt
  all-at-fit constants (a ∷ atoms) pos b f = (at-fits constants a pos b f.0, all-at-fit constants atoms pos b f.1)

  some-constant : (constants : List ℕ) (places : ℕ) → 0 < places → length constants ≡ places → AllBelow s.constants constants → 0 < s.constants
  some-constant [] places pos e b = absurd (omega arith)
  some-constant (x ∷ xs) places pos e b = omega (arith, b.0)

  -- a rule that is true at a choice has a true clause there
  pub instance-true : (r : Rule) (constants : List ℕ) → 0 < s.constants → AllBelow s.constants constants → OpsFit s r.hypotheses → OpsFit s r.conclusions → implied (map t (map (at s constants) r.hypotheses)) (map t (map (at s constants) r.conclusions)) ≡ true → list_all (clause_true assigned) (instance s r constants) ≡ true
  instance-true r constants some b f g h =
      one_clause (implication s (map (at s constants) r.hypotheses) (map (at s constants) r.conclusions))
      (implication-true (map (at s constants) r.hypotheses) (map (at s constants) r.conclusions)
      (all-at-fit constants r.hypotheses some b f) (all-at-fit constants r.conclusions some b g) h)

  -- a rule that is true at every choice has true instances
  pub instances-true : (r : Rule) → 0 < r.places → OpsFit s r.hypotheses → OpsFit s r.conclusions → ForEach s.constants r.places (λ constants. implied (map t (map (at s constants) r.hypotheses)) (map t (map (at s constants) r.conclusions)) ≡ true) → list_all (clause_true assigned) (instances s r) ≡ true
  instances-true r pos f g h =
      choices-all (clause_true assigned) s.constants r.places (instance s r)
      (λ constants e b.
      instance-true r constants (some-constant constants r.places pos e b) b f g
      (each-at s.constants r.places (λ chosen. implied (map t (map (at s chosen) r.hypotheses)) (map t (map (at s chosen) r.conclusions)) ≡ true) h constants e b))

-- Formulas over literals as circuits, and the clauses that define their gates: the transformation of
-- G. S. Tseitin, "On the complexity of derivation in propositional calculus", 1968.
use Rattle.std.specs.Prelude.{ℕ, suc, ◌+◌, ◌≤◌, Bool, true, false, not, ◌&&◌, ◌||◌, List, [], ◌∷◌, ◌++◌}
use Rattle.std.specs.List.{filter_map}
use Rattle.ql_cnf.specs.declared.lit.Lit.{Lit}
use Rattle.ql_cnf.specs.declared.ground.Ground.{Ground, True, Leaf, And', Or', Implies'}
use Rattle.ql_cnf.specs.Literals.{negated, clause_of}
use Rattle.ql_cnf.specs.Satisfaction.{literal_true}

-- a formula over literals, without the boxes that hold its parts in memory
pub data Circuit : Type 0 where
  Always : Circuit
  Input : Lit → Circuit
  Both : Circuit → Circuit → Circuit
  Either : Circuit → Circuit → Circuit
  IfThen : Circuit → Circuit → Circuit

abbrev pub circuit_of : Ground → Circuit
circuit_of True = Always
circuit_of (Leaf l) = Input l
circuit_of (And' p g q h) = Both (circuit_of g) (circuit_of h)
circuit_of (Or' p g q h) = Either (circuit_of g) (circuit_of h)
circuit_of (Implies' p g q h) = IfThen (circuit_of g) (circuit_of h)

-- its truth value in an assignment
abbrev pub circuit_true : List Bool → Circuit → Bool
circuit_true a Always = true
circuit_true a (Input l) = literal_true a l
circuit_true a (Both g h) = circuit_true a g && circuit_true a h
circuit_true a (Either g h) = circuit_true a g || circuit_true a h
circuit_true a (IfThen g h) = not (circuit_true a g) || circuit_true a h

-- the variables of its inputs are 1 to n
abbrev pub InputsInRange : ℕ → Circuit → Type 0
InputsInRange n Always = Unit {0}
InputsInRange n (Input l) = (1 ≤ l.var) × (l.var ≤ n)
InputsInRange n (Both g h) = InputsInRange n g × InputsInRange n h
InputsInRange n (Either g h) = InputsInRange n g × InputsInRange n h
InputsInRange n (IfThen g h) = InputsInRange n g × InputsInRange n h

-- how many gates it has: the nodes that aren't inputs
abbrev pub gates : Circuit → ℕ
gates Always = 1
gates (Input l) = 0
gates (Both g h) = suc (gates g + gates h)
gates (Either g h) = suc (gates g + gates h)
gates (IfThen g h) = suc (gates g + gates h)

abbrev pub yes : ℕ → Lit
yes v = record { var = v; positive = true }

abbrev pub no : ℕ → Lit
no v = record { var = v; positive = false }

-- The literal that stands for a circuit. Its gates are the variables after k, the parts before the whole
-- and the left before the right.
abbrev pub output : ℕ → Circuit → Lit
output k Always = yes (suc k)
output k (Input l) = l
output k (Both g h) = yes (suc (k + (gates g + gates h)))
output k (Either g h) = yes (suc (k + (gates g + gates h)))
output k (IfThen g h) = yes (suc (k + (gates g + gates h)))

-- the variable t is true exactly where x and y are, where one of them is, where x implies y
abbrev pub both_clauses : ℕ → Lit → Lit → List (List Lit)
both_clauses t x y = (no t ∷ x ∷ []) ∷ (no t ∷ y ∷ []) ∷ (yes t ∷ negated x ∷ negated y ∷ []) ∷ []

abbrev pub either_clauses : ℕ → Lit → Lit → List (List Lit)
either_clauses t x y = (yes t ∷ negated x ∷ []) ∷ (yes t ∷ negated y ∷ []) ∷ (no t ∷ x ∷ y ∷ []) ∷ []

abbrev pub if_then_clauses : ℕ → Lit → Lit → List (List Lit)
if_then_clauses t x y = (yes t ∷ x ∷ []) ∷ (yes t ∷ negated y ∷ []) ∷ (no t ∷ negated x ∷ y ∷ []) ∷ []

-- the literals of the clauses that define the gates, in the order of the gates
abbrev pub defining : ℕ → Circuit → List (List Lit)
defining k Always = (yes (suc k) ∷ []) ∷ []
defining k (Input l) = []
defining k (Both g h) =
    defining k g ++ defining (k + gates g) h
    ++ both_clauses (suc (k + (gates g + gates h))) (output k g) (output (k + gates g) h)
defining k (Either g h) =
    defining k g ++ defining (k + gates g) h
    ++ either_clauses (suc (k + (gates g + gates h))) (output k g) (output (k + gates g) h)
defining k (IfThen g h) =
    defining k g ++ defining (k + gates g) h
    ++ if_then_clauses (suc (k + (gates g + gates h))) (output k g) (output (k + gates g) h)

-- with a last clause that states that the circuit is false
abbrev pub denying : ℕ → Circuit → List (List Lit)
denying k g = defining k g ++ (negated (output k g) ∷ []) ∷ []

-- the clauses of these lists of literals; a list that holds both signs of a variable makes none
abbrev pub clauses_of : List (List Lit) → List (List Lit)
clauses_of lists = filter_map clause_of lists

-- the truth values of the gates, in their order
abbrev pub gate_values : List Bool → Circuit → List Bool
gate_values a Always = true ∷ []
gate_values a (Input l) = []
gate_values a (Both g h) = gate_values a g ++ gate_values a h ++ circuit_true a (Both g h) ∷ []
gate_values a (Either g h) = gate_values a g ++ gate_values a h ++ circuit_true a (Either g h) ∷ []
gate_values a (IfThen g h) = gate_values a g ++ gate_values a h ++ circuit_true a (IfThen g h) ∷ []

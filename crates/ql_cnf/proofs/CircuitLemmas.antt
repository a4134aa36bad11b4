-- What the clauses of a circuit need.
use Rattle.std.proofs.Common.{◌≡◌, ℕ, suc, ◌+◌, ◌≤◌, List, [], ◌∷◌, ◌++◌, sym, ◌∙◌, ap, append_assoc, arith}
use Rattle.std.proofs.lemmas.List.Elements.{filter_map-append}
use Rattle.ql_cnf.specs.declared.lit.Lit.{Lit}
use Rattle.ql_cnf.specs.Literals.{negated, clause_of}
use Rattle.ql_cnf.specs.Circuits.{Circuit, Always, Input, Both, Either, IfThen, InputsInRange, gates, output, defining, denying, clauses_of}

-- how many nodes a circuit has
abbrev pub nodes : Circuit → ℕ
nodes Always = 1
nodes (Input l) = 1
nodes (Both g h) = suc (nodes g + nodes h)
nodes (Either g h) = suc (nodes g + nodes h)
nodes (IfThen g h) = suc (nodes g + nodes h)

-- inputs stay in range
pub inputs_more : (m n : ℕ) (g : Circuit) → InputsInRange m g → m ≤ n → InputsInRange n g
inputs_more m n Always r h = tt
inputs_more m n (Input l) r h = (r.0, omega arith)
inputs_more m n (Both f g) r h = (inputs_more m n f r.0 h, inputs_more m n g r.1 h)
inputs_more m n (Either f g) r h = (inputs_more m n f r.0 h, inputs_more m n g r.1 h)
inputs_more m n (IfThen f g) r h = (inputs_more m n f r.0 h, inputs_more m n g r.1 h)

pub clauses_of-append : (a b : List (List Lit)) → clauses_of (a ++ b) ≡ clauses_of a ++ clauses_of b
clauses_of-append a b = filter_map-append clause_of a b

-- three parts of clauses, one after the other
pub joined : (p a b c : List (List Lit)) → p ++ clauses_of a ++ clauses_of b ++ clauses_of c ≡ p ++ clauses_of (a ++ b ++ c)
joined p a b c = rw (clauses_of-append (a ++ b) c, clauses_of-append a b) (simp append_assoc)

-- The clauses of two parts and of the gate that joins them. The variables before the parts and after each
-- are k, m and n; the clauses there are start, middle and most.
pub gate_joined : (gate : ℕ → Lit → Lit → List (List Lit)) (start middle most all : List (List Lit)) (k m n : ℕ) (x y : Lit) (g h : Circuit) → middle ≡ start ++ clauses_of (defining k g) → most ≡ middle ++ clauses_of (defining m h) → m ≡ k + gates g → n ≡ m + gates h → x ≡ output k g → y ≡ output m h → all ≡ most ++ clauses_of (gate (suc n) x y) → all ≡ start ++ clauses_of (defining k g ++ defining (k + gates g) h ++ gate (suc (k + (gates g + gates h))) (output k g) (output (k + gates g) h))
gate_joined gate start middle most all k m n x y g h first second left right is_x is_y last =
    let sum : n ≡ k + (gates g + gates h) = omega arith in
    last
    ∙ ap (λ i. most ++ clauses_of (gate (suc i) x y)) sum
    ∙ ap (λ z. most ++ clauses_of (gate (suc (k + (gates g + gates h))) z y)) is_x
    ∙ ap (λ z. most ++ clauses_of (gate (suc (k + (gates g + gates h))) (output k g) z)) (is_y ∙ ap (λ i. output i h) left)
    ∙ ap (λ p. p ++ clauses_of (gate (suc (k + (gates g + gates h))) (output k g) (output (k + gates g) h))) (second ∙ ap (λ i. middle ++ clauses_of (defining i h)) left ∙ ap (λ p. p ++ clauses_of (defining (k + gates g) h)) first)
    ∙ joined start (defining k g) (defining (k + gates g) h) (gate (suc (k + (gates g + gates h))) (output k g) (output (k + gates g) h))

-- the clauses of a circuit, with a last one that says that it is false
pub denying_joined : (start middle : List (List Lit)) (k : ℕ) (x : Lit) (g : Circuit) → middle ≡ start ++ clauses_of (defining k g) → x ≡ output k g → middle ++ (negated x ∷ []) ∷ [] ≡ start ++ clauses_of (denying k g)
denying_joined start middle k x g e is =
    ap (λ p. p ++ (negated x ∷ []) ∷ []) e
    ∙ append_assoc start (clauses_of (defining k g)) ((negated x ∷ []) ∷ [])
    ∙ ap (λ y. start ++ (clauses_of (defining k g) ++ (negated y ∷ []) ∷ [])) is
    ∙ ap (λ p. start ++ p) (sym (clauses_of-append (defining k g) ((negated (output k g) ∷ []) ∷ [])))

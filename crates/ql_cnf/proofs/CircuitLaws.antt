-- The clauses of a circuit keep its truth: what satisfied the old ones and makes it false extends, and what
-- satisfies all makes it false.
use Rattle.std.proofs.Common.{◌≡◌, ℕ, suc, ◌+◌, ◌-◌, ◌<◌, ◌≤◌, Bool, true, false, not, ◌&&◌, ◌||◌, List, [], ◌∷◌, ◌++◌, Option, Some, None, length, get_or, subst, refl, sym, ◌∙◌, ap, arith, length-append}
use Rattle.std.proofs.lemmas.Bool.{and_parts, and_from, not-true, false≢true}
use Rattle.std.proofs.lemmas.List.{get_or_append_left, get_or-append-add}
use Rattle.std.proofs.lemmas.List.Folds.{list_all-append}
use Rattle.std.specs.Bool.{beq}
use Rattle.std.specs.List.{list_all}
use Rattle.ql_cnf.specs.declared.lit.Lit.{Lit}
use Rattle.ql_cnf.specs.Literals.{negated, clause_of}
use Rattle.ql_cnf.specs.Satisfaction.{ClauseList, Satisfies, AreInRange, ClausesInRange, variable_value, literal_true, clause_true, all_true}
use Rattle.ql_cnf.specs.Circuits.{Circuit, Always, Input, Both, Either, IfThen, circuit_true, InputsInRange, gates, yes, output, both_clauses, either_clauses, if_then_clauses, defining, denying, clauses_of, gate_values}
use Rattle.ql_cnf.proofs.Truth.{added_means, left_out_means}

and_true : (b : Bool) → (b && true) ≡ b
and_true true = refl
and_true false = refl

or_false : (b : Bool) → (b || false) ≡ b
or_false true = refl
or_false false = refl

-- the clauses of lists of literals are true where the lists are
pub all_true-clauses_of : (a : List Bool) (lists : List (List Lit)) → all_true a (clauses_of lists) ≡ list_all (clause_true a) lists
all_true-clauses_of a [] = refl
all_true-clauses_of a (xs ∷ lists) = step (clause_of xs) refl (all_true-clauses_of a lists)
  where
    step : (o : Option (List Lit)) → clause_of xs ≡ o → all_true a (clauses_of lists) ≡ list_all (clause_true a) lists → all_true a (clauses_of (xs ∷ lists)) ≡ (clause_true a xs && list_all (clause_true a) lists)
    step None e rest = let yes : clause_true a xs ≡ true = sym (left_out_means a [] xs (sym e)) in rw (e, yes) rest
    step (Some c) e rest =
        let same : clause_true a c ≡ clause_true a xs = sym (and_true (clause_true a c)) ∙ added_means a [] xs c (sym e) in
        rw (e, same) (ap (λ b. clause_true a xs && b) rest)

-- the other sign has the other truth value
pub negated-true : (a : List Bool) (x : Lit) → literal_true a (negated x) ≡ not (literal_true a x)
negated-true a x = table (variable_value a x.var) x.positive
  where
    table : (v p : Bool) → beq v (not p) ≡ not (beq v p)
    table true true = refl
    table true false = refl
    table false true = refl
    table false false = refl

-- The clauses of each gate t over x and y, whose other signs are nx and ny: where they are true the gate has
-- the value of its connective, and with that value they are true.
abbrev both_gate : (t x y nx ny : Bool) → Bool
both_gate t x y nx ny = (beq t false || (x || false)) && ((beq t false || (y || false)) && ((beq t true || (nx || (ny || false))) && true))

abbrev either_gate : (t x y nx ny : Bool) → Bool
either_gate t x y nx ny = (beq t true || (nx || false)) && ((beq t true || (ny || false)) && ((beq t false || (x || (y || false))) && true))

abbrev if_then_gate : (t x y nx ny : Bool) → Bool
if_then_gate t x y nx ny = (beq t true || (x || false)) && ((beq t true || (ny || false)) && ((beq t false || (nx || (y || false))) && true))

both_table : (t x y : Bool) → both_gate t x y (not x) (not y) ≡ true → beq t true ≡ (x && y)
both_table true true true h = refl
both_table true true false h = absurd (false≢true h)
both_table true false true h = absurd (false≢true h)
both_table true false false h = absurd (false≢true h)
both_table false true true h = absurd (false≢true h)
both_table false true false h = refl
both_table false false true h = refl
both_table false false false h = refl

either_table : (t x y : Bool) → either_gate t x y (not x) (not y) ≡ true → beq t true ≡ (x || y)
either_table true true true h = refl
either_table true true false h = refl
either_table true false true h = refl
either_table true false false h = absurd (false≢true h)
either_table false true true h = absurd (false≢true h)
either_table false true false h = absurd (false≢true h)
either_table false false true h = absurd (false≢true h)
either_table false false false h = refl

if_then_table : (t x y : Bool) → if_then_gate t x y (not x) (not y) ≡ true → beq t true ≡ (not x || y)
if_then_table true true true h = refl
if_then_table true true false h = absurd (false≢true h)
if_then_table true false true h = refl
if_then_table true false false h = refl
if_then_table false true true h = absurd (false≢true h)
if_then_table false true false h = refl
if_then_table false false true h = absurd (false≢true h)
if_then_table false false false h = absurd (false≢true h)

both_values : (x y : Bool) → both_gate (x && y) x y (not x) (not y) ≡ true
both_values true true = refl
both_values true false = refl
both_values false true = refl
both_values false false = refl

either_values : (x y : Bool) → either_gate (x || y) x y (not x) (not y) ≡ true
either_values true true = refl
either_values true false = refl
either_values false true = refl
either_values false false = refl

if_then_values : (x y : Bool) → if_then_gate (not x || y) x y (not x) (not y) ≡ true
if_then_values true true = refl
if_then_values true false = refl
if_then_values false true = refl
if_then_values false false = refl

-- A connective, its gate's truth value and its gate's literals, with the two tables.
record Connective : Type 0 where
  value : Bool → Bool → Bool
  gate : (t x y nx ny : Bool) → Bool
  clauses : ℕ → Lit → Lit → List (List Lit)
  reads : (a : List Bool) (t : ℕ) (x y : Lit) → list_all (clause_true a) (clauses t x y) ≡ gate (variable_value a t) (literal_true a x) (literal_true a y) (literal_true a (negated x)) (literal_true a (negated y))
  forces : (t x y : Bool) → gate t x y (not x) (not y) ≡ true → beq t true ≡ value x y
  allows : (x y : Bool) → gate (value x y) x y (not x) (not y) ≡ true

abbrev conjunction : Connective
conjunction = record { value = λ x y. x && y; gate = both_gate; clauses = both_clauses; reads = λ a t x y. refl; forces = both_table; allows = both_values }

abbrev disjunction : Connective
disjunction = record { value = λ x y. x || y; gate = either_gate; clauses = either_clauses; reads = λ a t x y. refl; forces = either_table; allows = either_values }

abbrev implication : Connective
implication = record { value = λ x y. not x || y; gate = if_then_gate; clauses = if_then_clauses; reads = λ a t x y. refl; forces = if_then_table; allows = if_then_values }

-- three lists of clauses are true where all three are
three : (a : List Bool) (p q r : List (List Lit)) → list_all (clause_true a) (p ++ q ++ r) ≡ true → (list_all (clause_true a) p ≡ true) × (list_all (clause_true a) q ≡ true) × (list_all (clause_true a) r ≡ true)
three a p q r h =
    let outer = and_parts (list_all (clause_true a) (p ++ q)) (list_all (clause_true a) r) (sym (list_all-append (clause_true a) (p ++ q) r) ∙ h) in
    let inner = and_parts (list_all (clause_true a) p) (list_all (clause_true a) q) (sym (list_all-append (clause_true a) p q) ∙ outer.0) in
    (inner.0, inner.1, outer.1)

three-from : (a : List Bool) (p q r : List (List Lit)) → list_all (clause_true a) p ≡ true → list_all (clause_true a) q ≡ true → list_all (clause_true a) r ≡ true → list_all (clause_true a) (p ++ q ++ r) ≡ true
three-from a p q r f g h =
    list_all-append (clause_true a) (p ++ q) r
    ∙ and_from _ _ (list_all-append (clause_true a) p q ∙ and_from _ _ f g) h

-- a gate whose clauses are true has the value of its connective
gate_forced : (c : Connective) (a : List Bool) (t : ℕ) (x y : Lit) → list_all (clause_true a) (c.clauses t x y) ≡ true → literal_true a (yes t) ≡ c.value (literal_true a x) (literal_true a y)
gate_forced c a t x y h =
    c.forces (variable_value a t) (literal_true a x) (literal_true a y)
    (ap (λ n. c.gate (variable_value a t) (literal_true a x) (literal_true a y) n (not (literal_true a y))) (sym (negated-true a x))
    ∙ ap (λ n. c.gate (variable_value a t) (literal_true a x) (literal_true a y) (literal_true a (negated x)) n) (sym (negated-true a y))
    ∙ sym (c.reads a t x y) ∙ h)

-- the clauses of a gate with the value of its connective are true
gate_allowed : (c : Connective) (a : List Bool) (t : ℕ) (x y : Lit) → variable_value a t ≡ c.value (literal_true a x) (literal_true a y) → list_all (clause_true a) (c.clauses t x y) ≡ true
gate_allowed c a t x y e =
    c.reads a t x y
    ∙ ap (λ n. c.gate (variable_value a t) (literal_true a x) (literal_true a y) (literal_true a (negated x)) n) (negated-true a y)
    ∙ ap (λ n. c.gate (variable_value a t) (literal_true a x) (literal_true a y) n (not (literal_true a y))) (negated-true a x)
    ∙ ap (λ v. c.gate v (literal_true a x) (literal_true a y) (not (literal_true a x)) (not (literal_true a y))) e
    ∙ c.allows (literal_true a x) (literal_true a y)

-- where the defining clauses are true, the output has the truth value of the circuit
pub forced : (a : List Bool) (k : ℕ) (g : Circuit) → list_all (clause_true a) (defining k g) ≡ true → literal_true a (output k g) ≡ circuit_true a g
forced a k Always h = sym (or_false (literal_true a (yes (suc k)))) ∙ sym (and_true (literal_true a (yes (suc k)) || false)) ∙ h
forced a k (Input l) h = refl
forced a k (Both g h) all =
    let parts = three a (defining k g) (defining (k + gates g) h) (both_clauses (suc (k + (gates g + gates h))) (output k g) (output (k + gates g) h)) all in
    gate_forced conjunction a (suc (k + (gates g + gates h))) (output k g) (output (k + gates g) h) parts.2
    ∙ ap (λ x. x && literal_true a (output (k + gates g) h)) (forced a k g parts.0)
    ∙ ap (λ y. circuit_true a g && y) (forced a (k + gates g) h parts.1)
forced a k (Either g h) all =
    let parts = three a (defining k g) (defining (k + gates g) h) (either_clauses (suc (k + (gates g + gates h))) (output k g) (output (k + gates g) h)) all in
    gate_forced disjunction a (suc (k + (gates g + gates h))) (output k g) (output (k + gates g) h) parts.2
    ∙ ap (λ x. x || literal_true a (output (k + gates g) h)) (forced a k g parts.0)
    ∙ ap (λ y. circuit_true a g || y) (forced a (k + gates g) h parts.1)
forced a k (IfThen g h) all =
    let parts = three a (defining k g) (defining (k + gates g) h) (if_then_clauses (suc (k + (gates g + gates h))) (output k g) (output (k + gates g) h)) all in
    gate_forced implication a (suc (k + (gates g + gates h))) (output k g) (output (k + gates g) h) parts.2
    ∙ ap (λ x. not x || literal_true a (output (k + gates g) h)) (forced a k g parts.0)
    ∙ ap (λ y. not (circuit_true a g) || y) (forced a (k + gates g) h parts.1)

-- the values of the variables after k are these
pub record Reads (w : List Bool) (k : ℕ) (values : List Bool) : Type 0 where
  pub at : (i : ℕ) → i < length values → variable_value w (suc (k + i)) ≡ get_or values i false

Reads-left : (w : List Bool) (k : ℕ) (p q : List Bool) → Reads w k (p ++ q) → Reads w k p
Reads-left w k p q r = record { at = λ i l. r.at i (omega (arith, length-append p q)) ∙ get_or_append_left p q false i l }

Reads-right : (w : List Bool) (k n : ℕ) (p q : List Bool) → length p ≡ n → Reads w k (p ++ q) → Reads w (k + n) q
Reads-right w k n p q e r = record {
  at = λ i l.
      ap (λ v. variable_value w (suc v)) (omega arith) ∙ r.at (n + i) (omega (arith, length-append p q))
      ∙ ap (λ m. get_or (p ++ q) (m + i) false) (sym e) ∙ get_or-append-add p q i false;
}

length-parts : (p q : List Bool) (b : Bool) (m n : ℕ) → length p ≡ m → length q ≡ n → length (p ++ q ++ b ∷ []) ≡ suc (m + n)
length-parts p q b m n e f = omega (arith, length-append (p ++ q) (b ∷ []), length-append p q)

length-gate_values : (v : List Bool) (g : Circuit) → length (gate_values v g) ≡ gates g
length-gate_values v Always = refl
length-gate_values v (Input l) = refl
length-gate_values v (Both g h) = length-parts (gate_values v g) (gate_values v h) (circuit_true v (Both g h)) _ _ (length-gate_values v g) (length-gate_values v h)
length-gate_values v (Either g h) = length-parts (gate_values v g) (gate_values v h) (circuit_true v (Either g h)) _ _ (length-gate_values v g) (length-gate_values v h)
length-gate_values v (IfThen g h) = length-parts (gate_values v g) (gate_values v h) (circuit_true v (IfThen g h)) _ _ (length-gate_values v g) (length-gate_values v h)

beq-true : (b : Bool) → beq b true ≡ b
beq-true true = refl
beq-true false = refl

first : (v w : List Bool) (k : ℕ) (g h : Circuit) (b : Bool) → Reads w k (gate_values v g ++ gate_values v h ++ b ∷ []) → Reads w k (gate_values v g)
first v w k g h b r = Reads-left w k (gate_values v g) (gate_values v h) (Reads-left w k (gate_values v g ++ gate_values v h) (b ∷ []) r)

second : (v w : List Bool) (k : ℕ) (g h : Circuit) (b : Bool) → Reads w k (gate_values v g ++ gate_values v h ++ b ∷ []) → Reads w (k + gates g) (gate_values v h)
second v w k g h b r = Reads-right w k (gates g) (gate_values v g) (gate_values v h) (length-gate_values v g) (Reads-left w k (gate_values v g ++ gate_values v h) (b ∷ []) r)

-- An assignment w that agrees with v on the inputs, and whose values after k are those of the gates: the
-- output has the truth value that the circuit has in v, and the defining clauses are true.
record IsAllowed (v w : List Bool) (k : ℕ) (g : Circuit) : Type 0 where
  value : literal_true w (output k g) ≡ circuit_true v g
  clauses : list_all (clause_true w) (defining k g) ≡ true

-- the two parts of a gate are allowed, and the gate has the value of its connective: its clauses are true
gate_values_allowed : (c : Connective) (v w : List Bool) (k : ℕ) (g h : Circuit) → IsAllowed v w k g → IsAllowed v w (k + gates g) h → Reads w k (gate_values v g ++ gate_values v h ++ c.value (circuit_true v g) (circuit_true v h) ∷ []) → (literal_true w (yes (suc (k + (gates g + gates h)))) ≡ c.value (circuit_true v g) (circuit_true v h)) × (list_all (clause_true w) (defining k g ++ defining (k + gates g) h ++ c.clauses (suc (k + (gates g + gates h))) (output k g) (output (k + gates g) h)) ≡ true)
gate_values_allowed c v w k g h left right r =
    let result : Bool = c.value (circuit_true v g) (circuit_true v h) in
    let parts : List Bool = gate_values v g ++ gate_values v h in
    let size : length parts ≡ gates g + gates h = omega (arith, length-append (gate_values v g) (gate_values v h), length-gate_values v g, length-gate_values v h) in
    let last : variable_value w (suc (k + (gates g + gates h) + 0)) ≡ result = (Reads-right w k (gates g + gates h) parts (result ∷ []) size r).at 0 (omega arith) in
    let own : variable_value w (suc (k + (gates g + gates h))) ≡ result = ap (λ n. variable_value w (suc n)) (omega arith) ∙ last in (
      beq-true (variable_value w (suc (k + (gates g + gates h)))) ∙ own,
      three-from w (defining k g) (defining (k + gates g) h) _ left.clauses right.clauses
          (gate_allowed c w (suc (k + (gates g + gates h))) (output k g) (output (k + gates g) h)
          (own ∙ ap (λ x. c.value x (circuit_true v h)) (sym left.value) ∙ ap (λ y. c.value (literal_true w (output k g)) y) (sym right.value))),
    )

allowed : (v w : List Bool) (n k : ℕ) (g : Circuit) → ((l : Lit) → 1 ≤ l.var → l.var ≤ n → literal_true w l ≡ literal_true v l) → InputsInRange n g → Reads w k (gate_values v g) → IsAllowed v w k g
allowed v w n k Always same inside r =
    let own : variable_value w (suc k) ≡ true = ap (λ i. variable_value w (suc i)) (omega arith) ∙ r.at 0 (omega arith) in
    let yes_true : literal_true w (yes (suc k)) ≡ true = beq-true (variable_value w (suc k)) ∙ own in
    record { value = yes_true; clauses = rw yes_true refl }
allowed v w n k (Input l) same inside r = record { value = same l inside.0 inside.1; clauses = refl }
allowed v w n k (Both g h) same inside r =
    let left = allowed v w n k g same inside.0 (first v w k g h (circuit_true v (Both g h)) r) in
    let right = allowed v w n (k + gates g) h same inside.1 (second v w k g h (circuit_true v (Both g h)) r) in
    let both = gate_values_allowed conjunction v w k g h left right r in
    record { value = both.0; clauses = both.1 }
allowed v w n k (Either g h) same inside r =
    let left = allowed v w n k g same inside.0 (first v w k g h (circuit_true v (Either g h)) r) in
    let right = allowed v w n (k + gates g) h same inside.1 (second v w k g h (circuit_true v (Either g h)) r) in
    let both = gate_values_allowed disjunction v w k g h left right r in
    record { value = both.0; clauses = both.1 }
allowed v w n k (IfThen g h) same inside r =
    let left = allowed v w n k g same inside.0 (first v w k g h (circuit_true v (IfThen g h)) r) in
    let right = allowed v w n (k + gates g) h same inside.1 (second v w k g h (circuit_true v (IfThen g h)) r) in
    let both = gate_values_allowed implication v w k g h left right r in
    record { value = both.0; clauses = both.1 }

-- what comes after the variables of a clause doesn't matter to it
value-append : (v w : List Bool) (i : ℕ) → 1 ≤ i → i ≤ length v → variable_value (v ++ w) i ≡ variable_value v i
value-append v w i f l = get_or_append_left v w false (i - 1) (omega arith)

literal-append : (v w : List Bool) (l : Lit) → 1 ≤ l.var → l.var ≤ length v → literal_true (v ++ w) l ≡ literal_true v l
literal-append v w l f m = ap (λ b. beq b l.positive) (value-append v w l.var f m)

clause-append : (v w : List Bool) (c : List Lit) → AreInRange (length v) c → clause_true (v ++ w) c ≡ clause_true v c
clause-append v w [] r = refl
clause-append v w (x ∷ c) r =
    let here = r 0 x (omega arith) in
    ap (λ b. b || clause_true (v ++ w) c) (literal-append v w x here.0 here.1)
    ∙ ap (λ b. literal_true v x || b) (clause-append v w c (λ i d l. r (suc i) d (omega arith)))

all-append : (v w : List Bool) (cs : List (List Lit)) → ClausesInRange (length v) cs → all_true (v ++ w) cs ≡ all_true v cs
all-append v w [] r = refl
all-append v w (c ∷ cs) r =
    ap (λ b. b && all_true (v ++ w) cs) (clause-append v w c (r 0 c (omega arith)))
    ∙ ap (λ b. clause_true v c && b) (all-append v w cs (λ i d l. r (suc i) d (omega arith)))

-- the values after those of v
reads-append : (v w : List Bool) (k : ℕ) → length v ≡ k → Reads (v ++ w) k w
reads-append v w k e = record {
  at = λ i l.
      ap (λ m. get_or (v ++ w) m false) (omega arith) ∙ get_or-append-add v w i false;
}

-- The two laws of the clauses of a circuit, for the clause lists before and after.
module _ (old new : ClauseList) (g : Circuit) (fits : ClausesInRange old.variables old.clauses) (inputs : InputsInRange old.variables g) (variables : new.variables ≡ old.variables + gates g) (clauses : new.clauses ≡ old.clauses ++ clauses_of (denying old.variables g)) where
  split : (w : List Bool) → all_true w new.clauses ≡ (all_true w old.clauses && (list_all (clause_true w) (defining old.variables g) && clause_true w (negated (output old.variables g) ∷ [])))
  split w =
      ap (λ cs. all_true w cs) clauses
      ∙ list_all-append (clause_true w) old.clauses (clauses_of (denying old.variables g))
      ∙ ap (λ b. all_true w old.clauses && b) (all_true-clauses_of w (denying old.variables g) ∙ list_all-append (clause_true w) (defining old.variables g) ((negated (output old.variables g) ∷ []) ∷ [])
      ∙ ap (λ b. list_all (clause_true w) (defining old.variables g) && b) (and_true (clause_true w (negated (output old.variables g) ∷ []))))

  pub extends : (a : List Bool) → Satisfies a old → circuit_true a g ≡ false → Satisfies (a ++ gate_values a g) new
  extends a s no_value =
      let w : List Bool = a ++ gate_values a g in
      let kept : all_true w old.clauses ≡ true = all-append a (gate_values a g) old.clauses (subst (λ n. ClausesInRange n old.clauses) (sym s.0) fits) ∙ s.1 in
      let is = allowed a w old.variables old.variables g (λ l f m. literal-append a (gate_values a g) l f (omega (arith, s.0))) inputs (reads-append a (gate_values a g) old.variables s.0) in
      let root : clause_true w (negated (output old.variables g) ∷ []) ≡ true = or_false (literal_true w (negated (output old.variables g))) ∙ negated-true w (output old.variables g) ∙ ap not (is.value ∙ no_value) in (
        length-append a (gate_values a g) ∙ omega (arith, s.0, length-gate_values a g),
        split w ∙ and_from _ _ kept (and_from _ _ is.clauses root),
      )

  pub denied : (a : List Bool) → Satisfies a new → circuit_true a g ≡ false
  denied a s =
      let outer = and_parts (all_true a old.clauses) _ (sym (split a) ∙ s.1) in
      let inner = and_parts (list_all (clause_true a) (defining old.variables g)) (clause_true a (negated (output old.variables g) ∷ [])) outer.1 in
      sym (forced a old.variables g inner.0)
      ∙ not-true (literal_true a (output old.variables g)) (sym (negated-true a (output old.variables g)) ∙ sym (or_false (literal_true a (negated (output old.variables g)))) ∙ inner.1)

-- When an assignment, a list of truth values from variable 1 on, satisfies a clause list.
use Rattle.std.specs.Prelude.{ℕ, ◌-◌, ◌≡◌, ◌≤◌, Bool, false, List, ◌++◌, ◌∷◌, [], length, Option, None, Some, IsTrue}
use Rattle.std.specs.Bool.{beq}
use Rattle.std.specs.List.{All, list_any, list_all, slice_index_or}
use Rattle.ql_cnf.specs.declared.lit.Lit.{Lit}

-- a count of variables, and clauses over the variables from 1 to that count
pub record ClauseList : Type 0 where
  pub variables : ℕ
  pub clauses : List (List Lit)

-- the variables of these literals are 1 to n
abbrev pub AreInRange : ℕ → List Lit → Type 0
AreInRange n c = All (λ x. (1 ≤ x.var) × (x.var ≤ n)) c

-- the same of each clause
abbrev pub ClausesInRange : ℕ → List (List Lit) → Type 0
ClausesInRange n cs = All (AreInRange n) cs

-- the clause list with the clause, where there is one, at its end
abbrev pub with_clause : ClauseList → Option (List Lit) → ClauseList
with_clause p None = p
with_clause p (Some c) = record { variables = p.variables; clauses = p.clauses ++ c ∷ [] }

-- the truth value of a variable
abbrev pub variable_value : List Bool → ℕ → Bool
variable_value a v = slice_index_or a (v - 1) false

-- a literal is true where its variable has its sign
abbrev pub literal_true : List Bool → Lit → Bool
literal_true a x = beq (variable_value a x.var) x.positive

-- a clause is true where one of its literals is
abbrev pub clause_true : List Bool → List Lit → Bool
clause_true a c = list_any (literal_true a) c

-- each clause is true
abbrev pub all_true : List Bool → List (List Lit) → Bool
all_true a cs = list_all (clause_true a) cs

-- the assignment is as long as the variables, and each clause has a literal that is true in it
abbrev pub Satisfies : List Bool → ClauseList → Type 0
Satisfies a p = (length a ≡ p.variables) × IsTrue (all_true a p.clauses)

-- no assignment satisfies the clause list
abbrev pub IsUnsatisfiable : ClauseList → Type 0
IsUnsatisfiable p = (a : List Bool) → Satisfies a p → ⊥

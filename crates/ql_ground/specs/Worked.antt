-- A worked problem: one type with one operation, whose contract is `true`.
use Rattle.std.specs.Prelude.{List, [], ◌∷◌}
use Rattle.ql_cnf.specs.declared.lit.Lit.{Lit}
use Rattle.ql_cnf.specs.Circuits.{yes, no}
use Rattle.ql_lang.specs.Formulas.{Always, Resolved}

abbrev pub always_true : Resolved
always_true = record { vars = []; body = Always }

-- the clauses of the axioms
abbrev pub axioms_of_one : List (List Lit)
axioms_of_one =
    (yes 1 ∷ []) ∷ (yes 3 ∷ []) ∷ (yes 3 ∷ no 4 ∷ []) ∷ (no 4 ∷ yes 5 ∷ []) ∷ (no 2 ∷ no 3 ∷ yes 5 ∷ [])
    ∷ (yes 3 ∷ no 5 ∷ []) ∷ (no 5 ∷ yes 6 ∷ []) ∷ (no 2 ∷ yes 6 ∷ []) ∷ (no 4 ∷ yes 6 ∷ []) ∷ (no 6 ∷ []) ∷ (yes 9 ∷ []) ∷ []

-- the operation, the body and its denial
abbrev pub rest_of_one : List (List Lit)
rest_of_one = (yes 9 ∷ []) ∷ (yes 10 ∷ []) ∷ (no 10 ∷ []) ∷ []

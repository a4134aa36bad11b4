-- How a refutation's lines are spelled: each as a list of fields. They are close to those of the LRAT format
-- (Cruz-Filipe, Heule, Hunt, Kaufmann and Schneider-Kamp, 'Efficient certified RAT verification', CADE 2017).
use Rattle.std.specs.Prelude.{ℕ, suc, ◌<◌, ◌≤◌, ◌^◌, List, [], ◌∷◌, ◌++◌, map, codes, decimal, Bool, true, false}
use Rattle.std.specs.List.{AllByRecursion}
use Rattle.ql_cnf.specs.declared.lit.Lit.{Lit}
use Rattle.ql_cnf.specs.Literals.{IsAscendingByVariable}
use Rattle.ql_lines.specs.Fields.{Fields}
use Rattle.ql_refute.specs.declared.refutation.Hint.{Hint}
use Rattle.ql_refute.specs.declared.refutation.Hint.TheVariants.{Given, Earlier}
use Rattle.ql_refute.specs.declared.refutation.Line.{Line}

-- a variable, with `-` where it is negated
unfoldable pub signed_field : ℕ → Bool → List ℕ
signed_field var true = decimal var
signed_field var false = 45 ∷ decimal var

abbrev pub lit_field : Lit → List ℕ
lit_field x = signed_field x.var x.positive

-- `c` and the number of a given clause, or `l` and that of an earlier line
unfoldable pub hint_field : Hint → List ℕ
hint_field (Given n) = 99 ∷ decimal n
hint_field (Earlier n) = 108 ∷ decimal n

abbrev pub clause_fields : List Lit → Fields
clause_fields c = map lit_field c

abbrev pub colon : List ℕ
colon = codes ":"

-- what follows a line's number
abbrev pub body_fields : Line → Fields
body_fields l = clause_fields l.clause ++ colon ∷ map hint_field l.hints

abbrev pub line_fields : ℕ → Line → Fields
line_fields number l = decimal number ∷ body_fields l

-- lines with their numbers, where the first has the number n
unfoldable pub numbered_lines : ℕ → List Line → List Fields
numbered_lines n [] = []
numbered_lines n (l ∷ ls) = line_fields n l ∷ numbered_lines (suc n) ls

-- ---- what can be spelled

abbrev pub IsLit : Lit → Type 0
IsLit x = (1 ≤ x.var) × (x.var < 2 ^ 32)

-- literals in the order of their variables
pub record IsClause (c : List Lit) : Type 0 where
  pub lits : AllByRecursion IsLit c
  pub ascending : IsAscendingByVariable c

unfoldable pub IsHint : Hint → Type 0
IsHint (Given n) = (1 ≤ n) × (n < 2 ^ 32)
IsHint (Earlier n) = (1 ≤ n) × (n < 2 ^ 64)

pub record IsLine (l : Line) : Type 0 where
  pub clause : IsClause l.clause
  pub hints : AllByRecursion IsHint l.hints

-- Literals, and the clause that a list of literals makes.
use Rattle.std.specs.Prelude.{ℕ, suc, ◌<◌, ◌≡◌, Bool, not, ◌&&◌, ◌==◌, nat_lt, if◌then◌else◌, List, [], ◌∷◌, Option, None, Some, IsTrue}
use Rattle.std.specs.Bool.{beq}
use Rattle.std.specs.List.{list_any}
use Rattle.std.specs.Option.{option_map, option_and_then}
use Rattle.ql_cnf.specs.declared.lit.Lit.{Lit}

-- the same variable with the other sign
abbrev pub negated : Lit → Lit
negated x = record { var = x.var; positive = not x.positive }

-- the same variable with the same sign
abbrev pub same_literal : Lit → Lit → Bool
same_literal x y = (x.var == y.var) && beq x.positive y.positive

-- x is one of these
abbrev pub has_literal : List Lit → Lit → Bool
has_literal xs x = list_any (same_literal x) xs

-- each of these has a variable above n
abbrev pub AllAbove : ℕ → List Lit → Type 0
AllAbove n [] = Unit {0}
AllAbove n (x ∷ xs) = (n < x.var) × AllAbove n xs

-- strictly ascending by variable
abbrev pub IsAscendingByVariable : List Lit → Type 0
IsAscendingByVariable [] = Unit {0}
IsAscendingByVariable (x ∷ xs) = AllAbove x.var xs × IsAscendingByVariable xs

-- an ascending clause with one more literal, in order; none where it has the other sign
abbrev pub with_literal : Lit → List Lit → Option (List Lit)
with_literal x [] = Some (x ∷ [])
with_literal x (y ∷ ys) =
    if nat_lt x.var y.var
    then Some (x ∷ y ∷ ys)
    else (if x.var == y.var
    then (if beq x.positive y.positive then Some (y ∷ ys) else None)
    else option_map (λ zs. y ∷ zs) (with_literal x ys))

-- an ascending clause with all of these, in order
abbrev pub with_literals : List Lit → List Lit → Option (List Lit)
with_literals c [] = Some c
with_literals c (x ∷ xs) = option_and_then (λ d. with_literals d xs) (with_literal x c)

-- the ascending clause of these literals, each written once; none where they hold both signs of a variable
abbrev pub clause_of : List Lit → Option (List Lit)
clause_of xs = with_literals [] xs

-- both signs of a variable are among these
abbrev pub HasBothSigns : List Lit → Type 0
HasBothSigns xs = (x : Lit) × IsTrue (has_literal xs x) × IsTrue (has_literal xs (negated x))

-- the two lists have the same literals
abbrev pub SameLiterals : List Lit → List Lit → Type 0
SameLiterals xs ys = (x : Lit) → has_literal xs x ≡ has_literal ys x

-- how many of the literals have a variable below v
abbrev pub count_below : ℕ → List Lit → ℕ
count_below v [] = 0
count_below v (x ∷ xs) = if nat_lt x.var v then suc (count_below v xs) else 0

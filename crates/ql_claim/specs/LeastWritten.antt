-- What a reader may quote of `classify`.
use Rattle.std.specs.Prelude.{◌≡◌, ℕ, List, [], ◌∷◌, ◌++◌, Option, Some, codes}
use Rattle.ql_verdicts.specs.Commands.{ReportsLeast, ReportsNone}

-- The arguments are `classify NAME`, the file holds these bytes, and so much was written before: then a text was appended of
-- which this is said.
abbrev pub WritesOfSource : (List ℕ → List ℕ → Type 0) → List (List ℕ) → (List ℕ → Option (List ℕ)) → Option (List ℕ) → Option (List ℕ) → Type 0
WritesOfSource Says words held was is =
    (name source before : List ℕ) → words ≡ codes "classify" ∷ name ∷ [] → held name ≡ Some source → was ≡ Some before
    → (text : List ℕ) × (is ≡ Some (before ++ text)) × Says source text

-- The levels of the source's operations and transactions: each guarantees its contract in every execution of the program, and each
-- lower one fails in some execution of it.
abbrev pub WritesLeast : List (List ℕ) → (List ℕ → Option (List ℕ)) → Option (List ℕ) → Option (List ℕ) → Type 0
WritesLeast words held was is = WritesOfSource ReportsLeast words held was is

-- Why there are none: where no level is enough for a target, its highest fails in some execution of the program.
abbrev pub WritesNone : List (List ℕ) → (List ℕ → Option (List ℕ)) → Option (List ℕ) → Option (List ℕ) → Type 0
WritesNone words held was is = WritesOfSource ReportsNone words held was is

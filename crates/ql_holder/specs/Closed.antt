-- What is reached by needs, and the part of a set in which nothing needs what the set lacks.
use Rattle.std.specs.Prelude.{◌≡◌, ℕ, true, List}
use Rattle.ql_base.specs.IdLists.{has_id}

-- b is reached from a by zero or more needs
pub data Reaches (needs : ℕ → ℕ → Type 0) : ℕ → ℕ → Type 0 where
  here : (a : ℕ) → Reaches needs a a
  through : (a b c : ℕ) → needs a b → Reaches needs b c → Reaches needs a c

-- the closed part of a set: those from which all that is reached is in the set
abbrev pub Closed : (ℕ → ℕ → Type 0) → (ℕ → Type 0) → ℕ → Type 0
Closed needs set a = (b : ℕ) → Reaches needs a b → set b

-- a list of ids, as a set
abbrev pub Has : List ℕ → ℕ → Type 0
Has ids a = has_id ids a ≡ true

-- Sets of ids, as predicates and as the ascending lists of their members.
use Rattle.std.specs.Prelude.{ℕ, ◌≤◌, Bool, true, ◌&&◌, List, [], ◌∷◌}
use Rattle.ql_base.specs.IdLists.{IsAscending, has_id}
use Rattle.ql_holder.specs.Closed.{Has}

-- a list has each of these ids
abbrev pub has_all : List ℕ → List ℕ → Bool
has_all ids [] = true
has_all ids (a ∷ others) = has_id ids a && has_all ids others

-- the ids of which something holds, in ascending order
pub record AreThose (holds : ℕ → Type 0) (ids : List ℕ) : Type 0 where
  pub ascending : IsAscending ids
  pub all : (a : ℕ) → holds a → Has ids a
  pub only : (a : ℕ) → Has ids a → holds a

-- the least number of which something holds
pub record IsLeast (holds : ℕ → Type 0) (a : ℕ) : Type 0 where
  pub fits : holds a
  pub least : (b : ℕ) → holds b → a ≤ b

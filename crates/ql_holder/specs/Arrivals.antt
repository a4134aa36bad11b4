-- The result of receiving a package. The lists are what was received before it and after it.
use Rattle.std.specs.Prelude.{◌≡◌, ◌↔◌, ◌≤◌, ℕ, false, List, Result, Ok, Err}
use Rattle.ql_base.specs.IdLists.{IsAscending, has_id, union_of}
use Rattle.ql_base.specs.declared.no_memory.NoMemory.{NoMemory}
use Rattle.ql_exec.specs.declared.effect.Effect.{Effect}
use Rattle.ql_holder.specs.Closed.{Closed, Has}
use Rattle.ql_holder.specs.Needs.{Needs, IsNeeded}
use Rattle.ql_holder.specs.declared.arrival.Arrival.{Arrival}
use Rattle.ql_holder.specs.declared.arrival.Arrival.TheVariants.{Again, Waits, Applies}

-- what is applied: the closed part of what was received
abbrev pub Applied : List Effect → List ℕ → ℕ → Type 0
Applied x received a = Closed (Needs x) (Has received) a

-- the least id that a package needs and that wasn't received
pub record IsLeastMissing (x : List Effect) (received ids : List ℕ) (missing : ℕ) : Type 0 where
  pub needed : IsNeeded x ids missing
  pub absent : has_id received missing ≡ false
  pub least : (a : ℕ) → IsNeeded x ids a → has_id received a ≡ false → missing ≤ a

-- what is applied after and wasn't before, in ascending order
pub record IsGain (x : List Effect) (before after gain : List ℕ) : Type 0 where
  pub ascending : IsAscending gain
  pub gained : (a : ℕ) → Has gain a ↔ (Applied x after a × (Applied x before a → ⊥))

-- a package that wasn't received before, and now is
pub record IsNew (before ids after : List ℕ) : Type 0 where
  pub none_before : (a : ℕ) → Has ids a → has_id before a ≡ false
  pub added : after ≡ union_of before ids

-- the result for a package
abbrev pub IsArrival : List Effect → List ℕ → List ℕ → List ℕ → Arrival → Type 0
IsArrival x before ids after Again = ((a : ℕ) → Has ids a → Has before a) × (after ≡ before)
IsArrival x before ids after (Waits missing) = IsNew before ids after × IsLeastMissing x after ids missing.0
IsArrival x before ids after (Applies gain) =
    IsNew before ids after × ((a : ℕ) → Has ids a → Applied x after a) × IsGain x before after gain

-- the results after which a holder is as it was
abbrev pub ChangesNothing : Result Arrival NoMemory → Type 0
ChangesNothing (Ok Again) = Unit {0}
ChangesNothing (Ok (Waits missing)) = ⊥
ChangesNothing (Ok (Applies gain)) = ⊥
ChangesNothing (Err e) = Unit {0}

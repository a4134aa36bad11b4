-- What the transitive closure of a relation is.
use Rattle.std.specs.Prelude.{◌≡◌, ℕ, Bool, true}

-- one relation has all that another has
abbrev pub Includes : (ℕ → ℕ → Bool) → (ℕ → ℕ → Bool) → Type 0
Includes relation other = (a b : ℕ) → other a b ≡ true → relation a b ≡ true

abbrev pub IsTransitive : (ℕ → ℕ → Bool) → Type 0
IsTransitive relation = (a b c : ℕ) → relation a b ≡ true → relation b c ≡ true → relation a c ≡ true

-- the least transitive relation with these steps
pub record IsTransitiveClosure (step closure : ℕ → ℕ → Bool) : Type 0 where
  pub steps : Includes closure step
  pub chains : IsTransitive closure
  pub least : (other : ℕ → ℕ → Bool) → Includes other step → IsTransitive other → Includes other closure

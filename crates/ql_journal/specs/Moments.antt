-- What stops at any moment of a run of calls may have left.
use Rattle.std.specs.Prelude.{ℕ, ◌≤◌, ◌⊎◌, List}
use Rattle.ql_journal.specs.Bytes.{DiskBytes, IsImage}

-- Time passes in a call: what a stop since a moment may have left, it may have left before the call, or it may leave
-- now.
pub record Elapses (before now : ℕ) (past since : ℕ → List ℕ → Type 0) (disk : DiskBytes) : Type 0 where
  pub later : before ≤ now
  pub nothing_else : (t : ℕ) (image : List ℕ) → t ≤ before → since t image → past t image ⊎ IsImage disk image

-- whatever a stop since the first disk may have left has a property
pub record LeavesOnly {D : Type 0} (moment : D → ℕ) (left_since : D → ℕ → List ℕ → Type 0) (first last : D) (P : List ℕ → Type 0) : Type 0 where
  pub later : moment first ≤ moment last
  pub each : (image : List ℕ) → left_since last (moment first) image → P image
  -- for a run that began earlier
  pub before : (t : ℕ) (image : List ℕ) → t ≤ moment first → left_since last t image → left_since first t image ⊎ P image

-- A list of findings that grows.
use Rattle.std.proofs.Common.{◌≡◌, ℕ, List, length, Some, slice_get}
use Rattle.ql_classify.specs.Finding.{IsFinding}
use Rattle.ql_classify.specs.declared.finding.Finding.{Finding}
use Rattle.ql_lang.specs.declared.program.Program.{Program}

-- the findings of the first targets
pub record AreFirst (p : Program) (findings : List Finding) (count : ℕ) : Type 0 where
  pub all : length findings ≡ count
  pub each : (k : ℕ) (f : Finding) → slice_get findings k ≡ Some f → IsFinding p k f

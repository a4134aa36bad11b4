-- What a stored answer says, or its first fault.
use Rattle.std.specs.Prelude.{◌≡◌, ◌⊎◌, ℕ, true, false, List, [], ◌∷◌, ◌++◌, Result, Ok, Err}
use Rattle.ql_lines.specs.Outcomes.{Outcome}
use Rattle.ql_lines.specs.declared.fault.Broken.{Broken}
use Rattle.ql_lines.specs.Lines.{Numbered, ahead_from}
use Rattle.ql_baseline.specs.Lines.{IsStoredLine, is_passed}
use Rattle.ql_baseline.specs.declared.stored.BaselineRule.{BaselineRule}
use Rattle.ql_baseline.specs.declared.stored.BaselineRule.TheVariants.{Unexpected}
use Rattle.ql_baseline.specs.declared.stored.Stored.{Stored}

-- what a line makes of what the lines before it say: the same, if it says nothing about levels; else the same with a target, or
-- a fault, where it is no line of an answer
abbrev pub GivesStored : List Stored → List ℕ → Result (List Stored) BaselineRule → Type 0
GivesStored before text (Ok after) =
    ((is_passed text ≡ true) × (after ≡ before)) ⊎ ((is_passed text ≡ false) × (s : Stored) × IsStoredLine text s × (after ≡ before ++ s ∷ []))
GivesStored before text (Err rule) = (is_passed text ≡ false) × ((s : Stored) → IsStoredLine text s → ⊥)

abbrev pub gives_stored : List Stored → Numbered → Result (List Stored) BaselineRule → Type 0
gives_stored before l x = GivesStored before l.text x

-- a file's end: one that says nothing is at fault there
abbrev pub closes_stored : List Stored → ℕ → Result (List Stored) (Broken BaselineRule) → Type 0
closes_stored [] end x = x ≡ Err (record { line = end; rule = Unexpected })
closes_stored (s ∷ stored) end x = x ≡ Ok (s ∷ stored)

-- what the file says, or its first fault
abbrev pub IsBaseline : List ℕ → Result (List Stored) (Broken BaselineRule) → Type 0
IsBaseline bytes x = Outcome gives_stored closes_stored [] (ahead_from 1 bytes) x

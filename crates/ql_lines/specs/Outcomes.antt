-- The outcome of a line file: what it says, or its first fault.
use Rattle.std.specs.Prelude.{ℕ, ◌≡◌, List, [], ◌∷◌, ◌++◌, Result, Ok, Err}
use Rattle.ql_lines.specs.Lines.{Ahead, Numbered}
use Rattle.ql_lines.specs.declared.fault.Broken.{Broken}

module _ {State Said Rule : Type 0} (gives : State → Numbered → Result State Rule → Type 0) (closes : State → ℕ → Result Said (Broken Rule) → Type 0) where
  -- lines, read one after another, lead from one state to another
  unfoldable pub Leads : State → List Numbered → State → Type 0
  Leads before [] after = before ≡ after
  Leads before (l ∷ ls) after = (next : State) × gives before l (Ok next) × Leads next ls after

  module _ (start : State) (file : Ahead) where
    -- the file says this
    pub record Says (said : Said) : Type 0 where
      pub state : State
      pub leads : Leads start file.lines state
      pub ends : closes state file.end (Ok said)

    -- the first fault: the first line that breaks a rule, or else a rule that the file's end breaks
    pub data FirstFault : Broken Rule → Type 0 where
      at_line : (before : List Numbered) (l : Numbered) (rest : List Numbered) (state : State) (rule : Rule) → file.lines ≡ before ++ l ∷ rest → Leads start before state
          → gives state l (Err rule) → FirstFault (record { line = l.number; rule = rule })
      at_end : (state : State) (fault : Broken Rule) → Leads start file.lines state → closes state file.end (Err fault) → FirstFault fault

    abbrev pub Outcome : Result Said (Broken Rule) → Type 0
    Outcome (Ok said) = Says said
    Outcome (Err fault) = FirstFault fault

-- What a call wrote.
use Rattle.std.specs.Prelude.{◌≡◌, ◌⊎◌, ℕ, List, Option}
use Rattle.ql_ports.specs.Faults.{Rose}
use Rattle.ql_ports.specs.Written.{AppendsPrefix, appended}
use Rattle.ql_reply.specs.declared.status.Status.{Status}
use Rattle.ql_reply.specs.declared.status.Status.TheVariants.{Done, No, Bad, ReadFault, WriteFault, Usage, TooLarge}

-- the text was appended
abbrev pub Appends : (Status → List ℕ → Type 0) → Option (List ℕ) → Option (List ℕ) → Status → Type 0
Appends May was is status = (text : List ℕ) × May status text × (is ≡ appended was text)

-- What was written, by how the call ended: `was` and `is` are what the sink reports, and the counts are those of its faults.
abbrev pub Wrote : (Status → List ℕ → Type 0) → Option (List ℕ) → Option (List ℕ) → ℕ → ℕ → Status → Type 0
Wrote May was is before after WriteFault =
    Rose before after × (status : Status) × (text : List ℕ) × May status text × AppendsPrefix was is text
Wrote May was is before after Done = Appends May was is Done
Wrote May was is before after No = Appends May was is No
Wrote May was is before after Bad = Appends May was is Bad
Wrote May was is before after ReadFault = Appends May was is ReadFault
Wrote May was is before after Usage = Appends May was is Usage
Wrote May was is before after TooLarge = Appends May was is TooLarge

-- A reply was written whole, or the sink failed after a prefix of its text.
abbrev pub IsWritten : Status → List ℕ → Option (List ℕ) → Option (List ℕ) → ℕ → ℕ → Status → Type 0
IsWritten status text was is before after ended =
    ((ended ≡ status) × (is ≡ appended was text)) ⊎ ((ended ≡ WriteFault) × Rose before after × AppendsPrefix was is text)

-- What the readers of a line and of a file's end return: the given result, or that memory has run out.
use Rattle.std.specs.Prelude.{ℕ, Result, Ok, Err}
use Rattle.ql_lines.specs.declared.fault.Broken.{Broken}
use Rattle.ql_lines.specs.declared.fault.FileFault.{FileFault}
use Rattle.ql_lines.specs.declared.fault.FileFault.TheVariants as file
use Rattle.ql_lines.specs.declared.fault.LineFault.{LineFault}
use Rattle.ql_lines.specs.declared.fault.LineFault.TheVariants as line

abbrev pub IsLineAnswer : {State Rule : Type 0} → (Result State Rule → Type 0) → Result State (LineFault Rule) → Type 0
IsLineAnswer given (Ok state) = given (Ok state)
IsLineAnswer given (Err (line.Breaks rule)) = given (Err rule)
IsLineAnswer given (Err line.NoMemory) = Unit {0}

abbrev pub IsEndAnswer : {Said Rule : Type 0} → (Result Said (Broken Rule) → Type 0) → Result Said (FileFault Rule) → Type 0
IsEndAnswer given (Ok said) = given (Ok said)
IsEndAnswer given (Err (file.Broken fault)) = given (Err fault)
IsEndAnswer given (Err file.NoMemory) = Unit {0}

-- a line's fault as a fault of the file, at the line's number
abbrev pub fault_at : {Rule : Type 0} → LineFault Rule → ℕ → FileFault Rule
fault_at (line.Breaks rule) number = file.Broken (record { line = number; rule = rule })
fault_at line.NoMemory number = file.NoMemory

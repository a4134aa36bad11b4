-- The line that reports the fault of a file of `holds`, by the fault's public form.
use Rattle.std.specs.Prelude.{◌≡◌, ℕ, List, codes}
use Rattle.ql_holds_files.specs.declared.holds_fault.HoldsFault.{HoldsFault}
use Rattle.ql_holds_files.specs.declared.holds_fault.HoldsFault.TheVariants.{Unexpected, Unknown, Twice, TxnAtom, Variables, Range, NotForward, OtherObject, TooMany, NoMemory}
use Rattle.ql_reply.specs.Lines.{fault_line}

abbrev pub holds_fault_text : HoldsFault → List ℕ
holds_fault_text (Unexpected line) = fault_line (codes "holds") line (codes "Unexpected")
holds_fault_text (Unknown line) = fault_line (codes "holds") line (codes "Unknown")
holds_fault_text (Twice line) = fault_line (codes "holds") line (codes "Twice")
holds_fault_text (TxnAtom line) = fault_line (codes "holds") line (codes "TxnAtom")
holds_fault_text (Variables line) = fault_line (codes "holds") line (codes "Variables")
holds_fault_text (Range line) = fault_line (codes "holds") line (codes "Range")
holds_fault_text (NotForward line) = fault_line (codes "holds") line (codes "NotForward")
holds_fault_text (OtherObject line) = fault_line (codes "holds") line (codes "OtherObject")
holds_fault_text (TooMany line) = fault_line (codes "holds") line (codes "TooMany")
holds_fault_text NoMemory = codes ""

-- this line reports the fault, which isn't out of memory
abbrev pub IsReportedAs : HoldsFault → List ℕ → Type 0
IsReportedAs NoMemory text = ⊥
IsReportedAs fault text = text ≡ holds_fault_text fault

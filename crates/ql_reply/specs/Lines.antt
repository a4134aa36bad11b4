-- The line of a bad file.
use Rattle.std.specs.Prelude.{ℕ, List, ◌++◌, codes, decimal}
use Rattle.ql_reply.specs.declared.fault.Fault.{Fault}
use Rattle.ql_reply.specs.declared.fault.Part.{Part}
use Rattle.ql_reply.specs.declared.fault.Part.TheVariants.{Source, Schedule, Execution, Certificate, Proof, Holds, Baseline}
use Rattle.ql_reply.specs.declared.fault.Rule.{Rule}
use Rattle.ql_reply.specs.declared.fault.Rule.TheVariants.{BadChar, LongWord, BadNumber, Unexpected, Deep, Wide, Unknown, Twice, Kind, TooMany, TxnClosure, TxnAtom, Variables, Range, Number, NotForward, OtherObject, Mixed, Stamp, SplitTxn, BadHint, NotUnit, NoConflict, BadVariable, NoEmpty}

-- the line of a bad file, as `bad schedule at 4: Range`
abbrev pub fault_line : List ℕ → ℕ → List ℕ → List ℕ
fault_line part at rule = codes "bad " ++ part ++ codes " at " ++ decimal at ++ codes ": " ++ rule ++ codes "\n"

-- the name of a part of the input
abbrev pub part_name : Part → List ℕ
part_name Source = codes "source"
part_name Schedule = codes "schedule"
part_name Execution = codes "execution"
part_name Certificate = codes "certificate"
part_name Proof = codes "proof"
part_name Holds = codes "holds"
part_name Baseline = codes "baseline"

-- the name of a rule
abbrev pub rule_name : Rule → List ℕ
rule_name BadChar = codes "BadChar"
rule_name LongWord = codes "LongWord"
rule_name BadNumber = codes "BadNumber"
rule_name Unexpected = codes "Unexpected"
rule_name Deep = codes "Deep"
rule_name Wide = codes "Wide"
rule_name Unknown = codes "Unknown"
rule_name Twice = codes "Twice"
rule_name Kind = codes "Kind"
rule_name TooMany = codes "TooMany"
rule_name TxnClosure = codes "TxnClosure"
rule_name TxnAtom = codes "TxnAtom"
rule_name Variables = codes "Variables"
rule_name Range = codes "Range"
rule_name Number = codes "Number"
rule_name NotForward = codes "NotForward"
rule_name OtherObject = codes "OtherObject"
rule_name Mixed = codes "Mixed"
rule_name Stamp = codes "Stamp"
rule_name SplitTxn = codes "SplitTxn"
rule_name BadHint = codes "BadHint"
rule_name NotUnit = codes "NotUnit"
rule_name NoConflict = codes "NoConflict"
rule_name BadVariable = codes "BadVariable"
rule_name NoEmpty = codes "NoEmpty"

-- the line that reports a fault
abbrev pub reported_line : Fault → List ℕ
reported_line fault = fault_line (part_name fault.part) fault.at (rule_name fault.rule)
